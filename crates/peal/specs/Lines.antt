-- The lines of a policy, as sets of its rules (document 01, "From condition to listing"; change request 4 for the non-empty sets).
use Rattle.std.specs.Prelude.{Bool, not, ◌&&◌, List, [], ◌∷◌, map, ltb, ℤ, length}
use Rattle.std.specs.Int.Signed.{le_z, lt_z}
use Rattle.arith.specs.Lists.{every, exists, keep, non_empty, subsets}
use Rattle.peal.specs.Policies.{Rule}
use Rattle.peal.specs.Score.{scaled, total, scaled_product}
use Rattle.peal.specs.Ranking.{ranked}
use Rattle.peal.specs.declared.Operator.{Operator}
use Rattle.peal.specs.declared.Operator.TheVariants.{Min, Max, Sum, Mul}

-- the non-empty sets inside X, among which minimal sets are sought; of ranked rules in falling order of the sum of 2 to the rank
unfoldable pub sets_inside : List Rule → List (List Rule)
sets_inside X = keep non_empty (subsets X)

-- those that are smaller than X
unfoldable pub smaller_sets : List Rule → List (List Rule)
smaller_sets X = keep (λ Y. ltb (length Y) (length X)) (sets_inside X)

-- of a non-empty set X: it has the property, and no smaller non-empty set inside it has
unfoldable pub minimal : (List Rule → Bool) → List Rule → Bool
minimal property X = property X && every (λ Y. not (property Y)) (smaller_sets X)

-- the minimal sets of some rules
unfoldable pub minimal_sets : (List Rule → Bool) → List Rule → List (List Rule)
minimal_sets property rules = keep (minimal property) (sets_inside rules)

-- the tests of max and of min: V exceeds T, V is at most T
abbrev pub score_above : ℤ → Rule → Bool
score_above t r = lt_z t r.score

abbrev pub score_at_most : ℤ → Rule → Bool
score_at_most t r = le_z r.score t

-- sum: the sum exceeds T; mul: the product in units is at most T divided by 100; max, min: some rule passes the test
unfoldable pub has : Operator → ℤ → List Rule → Bool
has Sum t X = lt_z t (total X)
has Mul t X = le_z (scaled_product X) (scaled t)
has Max t X = exists (score_above t) X
has Min t X = exists (score_at_most t) X

-- the lines of a policy under threshold T, in falling order of the sum of 2 to the rank: minimal sets, or single rules
unfoldable pub lines : Operator → ℤ → List Rule → List (List Rule)
lines Sum t rules = minimal_sets (has Sum t) (ranked Sum rules)
lines Mul t rules = minimal_sets (has Mul t) (ranked Mul rules)
lines Max t rules = map (λ r. r ∷ []) (keep (score_above t) (ranked Max rules))
lines Min t rules = map (λ r. r ∷ []) (keep (score_at_most t) (ranked Min rules))
