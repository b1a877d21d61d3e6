-- Values as bits: one value more, the last two joined, and the one that remains.
use Prim.Native.Nat.{ℕ, zero, suc, ◌+◌, ◌*◌, ◌/◌, ◌%◌, ◌^◌, ◌≤◌, ◌<◌}
use mathlib.Core.Bool.{Bool, true, false}
use mathlib.Core.List.{List, [], ◌∷◌}
use mathlib.Core.Path.{◌≡◌, refl}
use native.Mathlib.Nat.{pow-suc}
use native.Mathlib.Omega.{arith}
use lib.ListN.{length}
use lib.Dec.{eqb}
use Rattle.layout.specs.Records.{one_if}
use Rattle.rod.specs.Reading.{joined}
use Rattle.rod.specs.Values.{bits_of, ValueAdded, LastJoined, join_meaning}

-- n values are below 2 to the n
pub bits_below : (s : List Bool) (n : ℕ) → length s ≤ n → bits_of s < 2 ^ n
unfolding bits_of one_if
bits_below [] zero h = omega arith
bits_below [] (suc n) h = let k : 0 < 2 ^ n = bits_below [] n (omega arith) in omega (arith, pow-suc 2 n)
bits_below (b ∷ s) zero h = absurd (omega arith)
bits_below (true ∷ s) (suc n) h = let k : bits_of s < 2 ^ n = bits_below s n (omega arith) in omega (arith, pow-suc 2 n)
bits_below (false ∷ s) (suc n) h = let k : bits_of s < 2 ^ n = bits_below s n (omega arith) in omega (arith, pow-suc 2 n)

-- one value more
module _ (values : ℕ) (value : Bool) where
  pub value-yes : value ≡ true → ValueAdded value values (values * 2 + 1)
  unfolding bits_of one_if
  value-yes v s e = rw v (omega arith)

  pub value-no : value ≡ false → ValueAdded value values (values * 2)
  unfolding bits_of one_if
  value-no v s e = rw v (omega arith)

-- the two lowest binary digits of a number
low_digit : (x p q t : ℕ) → p < 2 → q < 2 → x ≡ p + 2 * (q + 2 * t) → x % 2 ≡ p
low_digit x p q t hp hq e = omega arith

next-digit : (x p q t : ℕ) → p < 2 → q < 2 → x ≡ p + 2 * (q + 2 * t) → x / 2 % 2 ≡ q
next-digit x p q t hp hq e = let h : x / 2 ≡ q + 2 * t = omega arith in omega arith

-- the last two values joined: `yes` is how many of them are yes
module _ (values : ℕ) (o : Bool) where
  abbrev yes : ℕ
  yes = values % 2 + values / 2 % 2

  pub or-none : o ≡ true → yes ≡ 0 → LastJoined (join_meaning o) values (values / 4 * 2)
  unfolding bits_of one_if joined
  or-none p n true true s e = absurd (omega (arith, low_digit values 1 1 (bits_of s) (omega arith) (omega arith) e))
  or-none p n true false s e = absurd (omega (arith, next-digit values 0 1 (bits_of s) (omega arith) (omega arith) e))
  or-none p n false true s e = absurd (omega (arith, low_digit values 1 0 (bits_of s) (omega arith) (omega arith) e))
  or-none p n false false s e = rw p (omega arith)

  pub or_some : o ≡ true → (yes ≡ 0 → ⊥) → LastJoined (join_meaning o) values (values / 4 * 2 + 1)
  unfolding bits_of one_if joined
  or_some p n true true s e = rw p (omega arith)
  or_some p n true false s e = rw p (omega arith)
  or_some p n false true s e = rw p (omega arith)
  or_some p n false false s e = absurd (n (omega arith))

  pub and_both : o ≡ false → yes ≡ 2 → LastJoined (join_meaning o) values (values / 4 * 2 + 1)
  unfolding bits_of one_if joined
  and_both p n true true s e = rw p (omega arith)
  and_both p n true false s e = absurd (omega (arith, low_digit values 0 1 (bits_of s) (omega arith) (omega arith) e))
  and_both p n false true s e = absurd (omega (arith, next-digit values 1 0 (bits_of s) (omega arith) (omega arith) e))
  and_both p n false false s e = absurd (omega (arith, low_digit values 0 0 (bits_of s) (omega arith) (omega arith) e))

  pub and-not : o ≡ false → (yes ≡ 2 → ⊥) → LastJoined (join_meaning o) values (values / 4 * 2)
  unfolding bits_of one_if joined
  and-not p n true true s e = absurd (n (omega arith))
  and-not p n true false s e = rw p (omega arith)
  and-not p n false true s e = rw p (omega arith)
  and-not p n false false s e = rw p (omega arith)

-- one value is yes where its bit is 1
pub one_value : (b : Bool) → eqb (bits_of (b ∷ [])) 1 ≡ b
unfolding bits_of one_if
one_value true = refl
one_value false = refl
