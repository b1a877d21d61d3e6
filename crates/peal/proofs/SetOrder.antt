-- The sets inside rules in falling rank stand in falling order of the sum of 2 to the rank: for n ranks the sums are 2 ^ n - 1, .. 1, 0.
use Prim.Native.Nat.{ℕ, zero, suc, ◌+◌, ◌^◌}
use mathlib.Core.List.{List, [], ◌∷◌, ◌++◌, map}
use mathlib.Core.Path.{◌≡◌, refl, sym, ap, ap₂, ◌∙◌}
use native.Mathlib.Nat.{zero-add, suc-add, add_comm, two-pow-succ}
use Rattle.arith.specs.Lists.{subsets, below}
use Rattle.signals.specs.Sets.{set_of}

-- the numbers below a + b: those from b on, then those below b
below-add : (a b : ℕ) → below (a + b) ≡ map (λ n. b + n) (below a) ++ below b
below-add zero b = rw zero-add refl
below-add (suc a) b = rw suc-add (ap₂ (λ (n : ℕ) (l : List ℕ). n ∷ l) (add_comm a b) (below-add a b))

-- the sums of some sets, and of the same sets with one rank more in front of them
sums-with : (n : ℕ) (sets more : List (List ℕ))
    → map set_of (map (λ Y. n ∷ Y) sets ++ more) ≡ map (λ k. 2 ^ n + k) (map set_of sets) ++ map set_of more
unfolding set_of
sums-with n [] more = refl
sums-with n (X ∷ sets) more = ap (λ (l : List ℕ). (2 ^ n + set_of X) ∷ l) (sums-with n sets more)

-- `set_of ranks` is the sum of 2 to the rank
pub sums-fall : (n : ℕ) → map set_of (subsets (below n)) ≡ below (2 ^ n)
unfolding set_of
sums-fall zero = refl
sums-fall (suc n) =
    sums-with n (subsets (below n)) (subsets (below n))
    ∙ ap (λ (l : List ℕ). map (λ k. 2 ^ n + k) l ++ l) (sums-fall n)
    ∙ sym (below-add (2 ^ n) (2 ^ n))
    ∙ ap below (sym (two-pow-succ n))
