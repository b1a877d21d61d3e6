-- Laws of lists in a fixed number of cells.
use Prim.Native.Nat.{ℕ, zero, suc, ◌+◌, ◌-◌, ◌<◌}
use mathlib.Core.List.{List, [], ◌∷◌, ◌++◌, append_assoc}
use mathlib.Core.Path.{◌≡◌, refl, ap}
use native.Mathlib.Omega.{arith}
use lib.ListN.{length, get_or, set, replicate, length-append, length-set}
use Rattle.arith.specs.Padding.{padded}

module _ {A : Type 0} where
  set_after : (xs ys : List A) (y z : A) → set (xs ++ (y ∷ ys)) (length xs) z ≡ xs ++ (z ∷ ys)
  set_after [] ys y z = refl
  set_after (x ∷ xs) ys y z = ap {B = List A} (λ l. x ∷ l) (set_after xs ys y z)

  set_before : (xs ys : List A) (i : ℕ) (z : A) → i < length xs → set (xs ++ ys) i z ≡ set xs i z ++ ys
  set_before [] ys i z h = absurd (omega arith)
  set_before (x ∷ xs) ys zero z h = refl
  set_before (x ∷ xs) ys (suc i) z h = ap {B = List A} (λ l. x ∷ l) (set_before xs ys i z (omega arith))

  get-before : (xs ys : List A) (i : ℕ) (d : A) → i < length xs → get_or (xs ++ ys) i d ≡ get_or xs i d
  get-before [] ys i d h = absurd (omega arith)
  get-before (x ∷ xs) ys zero d h = refl
  get-before (x ∷ xs) ys (suc i) d h = get-before xs ys i d (omega arith)

  -- the first free cell filled
  pub padded-more : (n : ℕ) (z : A) (xs : List A) (x : A) → length xs < n → set (padded n z xs) (length xs) x ≡ padded n z (xs ++ (x ∷ []))
  unfolding padded
  padded-more n z xs x h =
      let free : n - length xs ≡ suc (n - (length xs + 1)) = omega arith in
      let count : length (xs ++ (x ∷ [])) ≡ length xs + 1 = length-append xs (x ∷ []) in
      rw (free, count, append_assoc xs (x ∷ []) (replicate (n - (length xs + 1)) z)) (set_after xs (replicate (n - (length xs + 1)) z) z x)

  -- a filled cell changed, and read
  pub padded-set : (n : ℕ) (z : A) (xs : List A) (i : ℕ) (x : A) → i < length xs → set (padded n z xs) i x ≡ padded n z (set xs i x)
  unfolding padded
  padded-set n z xs i x h = rw (length-set xs i x) (set_before xs (replicate (n - length xs) z) i x h)

  pub padded-get : (n : ℕ) (z : A) (xs : List A) (i : ℕ) (d : A) → i < length xs → get_or (padded n z xs) i d ≡ get_or xs i d
  unfolding padded
  padded-get n z xs i d h = get-before xs (replicate (n - length xs) z) i d h
