-- Laws of numbers: what a test of the code settles of the definitions, how large numbers get, and small numbers in 32 bits.
use Prim.Native.Nat.{ℕ, zero, suc, ◌+◌, ◌-◌, ◌*◌, ◌^◌, ◌≤◌, ◌<◌}
use mathlib.Core.Bool.{Bool, true, false, cond, not, ◌&&◌}
use mathlib.Core.List.{List, [], ◌∷◌}
use mathlib.Core.Option.{Option, none, some, map}
use mathlib.Core.Path.{◌≡◌, refl, ap, ◌∙◌}
use native.Mathlib.Nat.{pow-le-pow_right, pow-suc, mul-le-mul_right}
use native.Mathlib.Numerals.{add-one}
use native.Mathlib.Omega.{arith}
use lib.Dec.{leb, eqb, lit<}
use lib.IntN.{pos, neg_ℤ, ◌-ℤ◌, +ℤ_idl}
use lib.ListN.{length, get_or, take, drop, drop_of_length-le, length-take}
use lib.Seq.{drop-cons, take_all}
use mir.Syntax.{w32}
use mir.Val.{SFits, to_z, of_z}
use mir.ValLaws.{to_z_pos, to_z-of_z}
use borrow.Author.Tests.{le-leb}
use Rattle.std.proofs.lemmas.Bool.Decides.{nat_tests}
use Rattle.std.proofs.lemmas.List.Folds.{length-prefix_len}
use Rattle.arith.proofs.Signed.{mag-sub}
use Rattle.arith.specs.Options.{◌>>=◌, if◌then◌}
use Rattle.text.specs.Numbers.{is_digit, with_digits, no_leading_zero, natural, negated, number}
use Rattle.text.specs.Expressions.{digit_count}
use Rattle.std.specs.List.{prefix_len}

-- ---- what was found under a test

if_some : {A : Type 0} (t : Bool) (o : Option A) {a : A} → (if t then o) ≡ some a → (t ≡ true) × (o ≡ some a)
if_some true o h = (refl, h)
if_some false o h = absurd cc

-- 0 stands first only where it is the only digit
pub lead_is : (s : List ℕ) → no_leading_zero s ≡ not (leb 2 (length s) && eqb (get_or s 0 0) 48)
unfolding no_leading_zero
lead_is [] = refl
lead_is (b ∷ []) = refl
lead_is (b ∷ c ∷ s) = rw (le-leb 2 (suc (suc (length s))) (omega arith))

-- ---- digits one by one, from the place i on

pub digit_low : (b : ℕ) → is_digit b ≡ true → 48 ≤ b
unfolding is_digit
digit_low b h = grind (arith, nat_tests)

pub digit-high : (b : ℕ) → is_digit b ≡ true → b ≤ 57
unfolding is_digit
digit-high b h = grind (arith, nat_tests)

pub digit-more : (v : ℕ) (s : List ℕ) (i : ℕ) → i < length s → is_digit (get_or s i 0) ≡ true → with_digits v (drop i s) ≡ with_digits (v * 10 + (get_or s i 0 - 48)) (drop (i + 1) s)
unfolding with_digits
digit-more v s i h d = rw (drop-cons s i 0 h, d, add-one i)

pub no_digit : (v : ℕ) (s : List ℕ) (i : ℕ) → i < length s → is_digit (get_or s i 0) ≡ false → with_digits v (drop i s) ≡ none
unfolding with_digits
no_digit v s i h d = rw (drop-cons s i 0 h, d)

pub digits-done : (v : ℕ) (s : List ℕ) (i : ℕ) → length s ≤ i → with_digits v (drop i s) ≡ some v
unfolding with_digits
digits-done v s i h = rw (drop_of_length-le s h)

-- ---- how many digits stand at the front

pub count_prefix : (s : List ℕ) → digit_count s ≡ prefix_len is_digit s
unfolding digit_count
count_prefix [] = refl
count_prefix (b ∷ s) = ap (λ (n : ℕ). cond (is_digit b) n 0) (omega (arith, count_prefix s))

pub digits-within : (s : List ℕ) → digit_count s ≤ length s
digits-within s = omega (arith, count_prefix s, length-prefix_len is_digit s, length-take (prefix_len is_digit s) s)

-- ---- sizes

-- one digit more has room
pub digit_room : (v d i : ℕ) → v < 10 ^ i → d ≤ 9 → v * 10 + d < 10 ^ (i + 1)
digit_room v d i h l = rw (add-one i, pow-suc 10 i) (omega arith)

one_more : (v d p n : ℕ) → d ≤ 9 → n < (v * 10 + d + 1) * p → n < (v + 1) * (p * 10)
one_more v d p n h l =
    let m : v * 10 + d + 1 ≤ v * 10 + 10 = omega arith in
    omega (arith, mul-le-mul_right p m)

digits-small : (v : ℕ) (s : List ℕ) (n : ℕ) → with_digits v s ≡ some n → n < (v + 1) * 10 ^ length s
unfolding with_digits
digits-small v [] n e = let h : v ≡ n = cc in omega arith
digits-small v (b ∷ s) n e =
    let q = if_some (is_digit b) (with_digits (v * 10 + (b - 48)) s) e in
    let i = digits-small (v * 10 + (b - 48)) s n q.1 in
    rw (pow-suc 10 (length s)) (one_more v (b - 48) (10 ^ length s) n (omega (arith, digit-high b q.0)) i)

pub natural-small : (s : List ℕ) (n : ℕ) → natural s ≡ some n → n < 1000000
unfolding natural
natural-small s n e = grind (arith, nat_tests, digits-small 0 s n, pow-le-pow_right {n = 10} (lit< tt) {i = length s} {j = 6})

pub natural-length : (s : List ℕ) (n : ℕ) → natural s ≡ some n → 1 ≤ length s
unfolding natural
natural-length s n e = grind (arith, nat_tests)

-- by these the digits passed make the value
pub ruleset digits = (nat_tests, digit_low, digit-high, digit-more, no_digit, digits-done, digit_room)

-- ---- a number, by its first byte

pub number-is : (s : List ℕ) → number s ≡ cond (leb 1 (length s) && eqb (get_or s 0 0) 45) (natural (take (length s - 1) (drop 1 s)) >>= negated) (map pos (natural s))
unfolding number natural
number-is [] = refl
number-is (b ∷ s) = rw (le-leb 1 (suc (length s)) (omega arith), take_all (suc (length s) - 1) s (omega arith))

pub minus-some : (n : ℕ) → (n ≡ 0 → ⊥) → negated n ≡ some (neg_ℤ (pos n))
unfolding negated
minus-some zero z = absurd (z refl)
minus-some (suc n) z = refl

-- ---- a number below a million in 32 bits, as it is and negated

module _ (n : ℕ) (h : n < 1000000) where
  pub pos-fits : SFits w32 (pos n)
  pos-fits = record { sfits = omega arith }

  pub pos-read : to_z w32 n ≡ pos n
  pos-read = to_z_pos w32 n (omega arith)

  -- 0 less n is -n
  minus_is : pos 0 -ℤ to_z w32 n ≡ neg_ℤ (pos n)
  minus_is = rw pos-read (+ℤ_idl (neg_ℤ (pos n)))

  pub minus-fits : SFits w32 (pos 0 -ℤ to_z w32 n)
  minus-fits = rw pos-read (record { sfits = omega (arith, mag-sub (pos 0) (pos n)) })

  pub minus-read : to_z w32 (of_z w32 (pos 0 -ℤ to_z w32 n)) ≡ neg_ℤ (pos n)
  minus-read = to_z-of_z w32 _ minus-fits ∙ minus_is

-- by these a number is read of its first byte and its digits
pub ruleset numbers = (nat_tests, natural-small, number-is, minus-some, pos-fits, pos-read, minus-fits, minus-read)
