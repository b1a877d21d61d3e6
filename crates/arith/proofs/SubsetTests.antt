-- Some list inside X passes a test and has members of one kind alone: some list inside the members of that kind passes.
use mathlib.Core.Bool.{Bool, true, false, cond, ◌&&◌, ◌||◌, and-true, and-false}
use mathlib.Core.List.{List, [], ◌∷◌, map}
use mathlib.Core.Path.{◌≡◌, sym, ap, ap₂, ◌∙◌}
use Rattle.arith.specs.Lists.{every, exists, keep, subsets}
use Rattle.arith.proofs.EveryExists.{exists-append, exists-map, exists-none}

module _ {A : Type 0} where
  -- with the first member, or without it
  exists-subsets : (test : List A → Bool) (x : A) (X : List A) → exists test (subsets (x ∷ X)) ≡ (exists (λ Y. test (x ∷ Y)) (subsets X) || exists test (subsets X))
  exists-subsets test x X =
      exists-append test (map (λ Y. x ∷ Y) (subsets X)) (subsets X) ∙ ap (λ (t : Bool). t || exists test (subsets X)) (exists-map (λ Y. x ∷ Y) test (subsets X))

  pub subsets-kept : (kind : A → Bool) (test : List A → Bool) (X : List A) → exists (λ Y. test Y && every kind Y) (subsets X) ≡ exists test (subsets (keep kind X))
  subsets-kept kind test [] = rw (and-true (test []))
  subsets-kept kind test (x ∷ X) =
      exists-subsets (λ Y. test Y && every kind Y) x X ∙ go (kind x) (subsets-kept kind (λ Y. test (x ∷ Y)) X) (subsets-kept kind test X)
    where
      go : (t : Bool) → exists (λ Y. test (x ∷ Y) && every kind Y) (subsets X) ≡ exists (λ Y. test (x ∷ Y)) (subsets (keep kind X))
          → exists (λ Y. test Y && every kind Y) (subsets X) ≡ exists test (subsets (keep kind X))
          → (exists (λ Y. test (x ∷ Y) && (t && every kind Y)) (subsets X) || exists (λ Y. test Y && every kind Y) (subsets X))
          ≡ exists test (subsets (cond t (x ∷ keep kind X) (keep kind X)))
      go true with-x without = ap₂ (λ (a b : Bool). a || b) with-x without ∙ sym (exists-subsets test x (keep kind X))
      go false with-x without = rw (exists-none (λ Y. test (x ∷ Y) && false) (λ Y. and-false (test (x ∷ Y))) (subsets X)) without
