-- Laws of a list that is filled with another's members, from the front. (`paste` of `lib.Seq` from index 0 would leave `0 + n` in
-- every goal.)
use Prim.Native.Nat.{ℕ, zero, suc, ◌+◌, ◌≤◌, ◌<◌}
use mathlib.Core.List.{List, [], ◌∷◌, ◌++◌, append-nil}
use mathlib.Core.Path.{◌≡◌, refl, sym, ap, ◌∙◌}
use native.Mathlib.Numerals.{add-one}
use native.Mathlib.Omega.{arith}
use lib.ListN.{length, get_or, set, take, drop, drop_of_length-le}
use lib.Seq.{take_all}

module _ {A : Type 0} where
  -- the first n members are those of the one list, the others as they were
  abbrev pub filled : ℕ → List A → List A → List A
  filled n all before = take n all ++ drop n before

  -- one member more
  filled-suc : (all before : List A) (n : ℕ) (z : A) → n < length all → n < length before
      → set (filled n all before) n (get_or all n z) ≡ filled (suc n) all before
  filled-suc [] before n z h k = absurd (omega arith)
  filled-suc (x ∷ all) [] n z h k = absurd (omega arith)
  filled-suc (x ∷ all) (y ∷ before) zero z h k = refl
  filled-suc (x ∷ all) (y ∷ before) (suc n) z h k =
      ap {B = List A} (λ l. x ∷ l) (filled-suc all before n z (omega arith) (omega arith))

  pub filled_more : (all before : List A) (n : ℕ) (z : A) → n < length all → n < length before
      → set (filled n all before) n (get_or all n z) ≡ filled (n + 1) all before
  filled_more all before n z h k = filled-suc all before n z h k ∙ ap (λ (m : ℕ). filled m all before) (sym (add-one n))

  -- with no member left in either, it is the one list
  pub filled-all : (all before : List A) (n : ℕ) → length all ≤ n → length before ≤ n → filled n all before ≡ all
  filled-all all before n h k = rw (take_all n all h, drop_of_length-le before {i = n} k) (append-nil all)
