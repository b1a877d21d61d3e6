-- Computed examples: the order of lines, equality in lines, no line that holds a smaller one, the search and the ranks.
use Prim.Native.Nat.{ℕ}
use mathlib.Core.List.{List, [], ◌∷◌, map}
use mathlib.Core.Path.{◌≡◌, refl}
use lib.IntN.{ℤ, pos, negsuc}
use Rattle.peal.specs.Policies.{Rule, mask_of}
use Rattle.peal.specs.Ranking.{ranked}
use Rattle.peal.specs.Ranks.{rank}
use Rattle.peal.specs.Lines.{has, lines}
use Rattle.peal.specs.Search.{found_from, found_sets}
use Rattle.peal.specs.Computing.{peal_computes}
use Rattle.peal.specs.declared.Operator.{Operator}
use Rattle.peal.specs.declared.Operator.TheVariants.{Min, Max, Sum, Mul}

-- a rule: its signal and its score
infix 90 ◌at◌
abbrev pub ◌at◌ : ℕ → ℤ → Rule
s at v = record { signal = s; score = v }

-- the masks of the lines under a threshold
abbrev masks : Operator → ℤ → List Rule → List ℕ
masks op t rules = map mask_of (lines op t rules)

-- ---- lines in falling order of the sum of 2 to the rank

-- of equal scores the lower signal has the lower rank, whatever the book's order
equal-sum : masks Sum (pos 50) (2 at pos 30 ∷ 0 at pos 30 ∷ 1 at pos 30 ∷ []) ≡ 6 ∷ 5 ∷ 3 ∷ []
unfolding peal_computes
equal-sum = refl

equal-mul : masks Mul (pos 25) (1 at pos 50 ∷ 2 at pos 50 ∷ 0 at pos 50 ∷ []) ≡ 6 ∷ 5 ∷ 3 ∷ []
unfolding peal_computes
equal-mul = refl

equal-max : masks Max (pos 50) (2 at pos 60 ∷ 0 at pos 60 ∷ 1 at pos 60 ∷ []) ≡ 4 ∷ 2 ∷ 1 ∷ []
unfolding peal_computes
equal-max = refl

equal-min : masks Min (pos 50) (2 at pos 40 ∷ 0 at pos 40 ∷ 1 at pos 40 ∷ []) ≡ 4 ∷ 2 ∷ 1 ∷ []
unfolding peal_computes
equal-min = refl

-- ranks rise with V in sum and max, and fall with V in mul and min
order-sum : masks Sum (pos 50) (0 at pos 60 ∷ 1 at pos 40 ∷ 2 at pos 70 ∷ 3 at pos 20 ∷ []) ≡ 4 ∷ 1 ∷ 10 ∷ []
unfolding peal_computes
order-sum = refl

order-max : masks Max (negsuc 9) (0 at negsuc 4 ∷ 1 at pos 40 ∷ 2 at negsuc 19 ∷ 3 at pos 0 ∷ []) ≡ 2 ∷ 8 ∷ 1 ∷ []
unfolding peal_computes
order-max = refl

order-mul : masks Mul (pos 50) (0 at pos 40 ∷ 1 at pos 70 ∷ 2 at pos 30 ∷ 3 at pos 60 ∷ []) ≡ 4 ∷ 1 ∷ 10 ∷ []
unfolding peal_computes
order-mul = refl

order-min : masks Min (pos 10) (0 at pos 5 ∷ 1 at negsuc 39 ∷ 2 at pos 20 ∷ 3 at pos 0 ∷ []) ≡ 2 ∷ 8 ∷ 1 ∷ []
unfolding peal_computes
order-min = refl

-- ---- equality in lines: the sum must exceed T, the product may equal T, V must be above T in max and may equal T in min

at_sum : masks Sum (pos 50) (0 at pos 20 ∷ 1 at pos 30 ∷ []) ≡ []
unfolding peal_computes
at_sum = refl

at_mul : masks Mul (pos 25) (0 at pos 50 ∷ 1 at pos 50 ∷ []) ≡ 3 ∷ []
unfolding peal_computes
at_mul = refl

at-max : masks Max (pos 20) (0 at pos 20 ∷ 1 at pos 21 ∷ []) ≡ 2 ∷ []
unfolding peal_computes
at-max = refl

at-min : masks Min (pos 20) (0 at pos 20 ∷ 1 at pos 21 ∷ []) ≡ 1 ∷ []
unfolding peal_computes
at-min = refl

-- ---- sought among non-empty sets only, also where the sum of no rule, 0, exceeds T, or its product, one unit, is at most T

-- each single rule is a line then, one of score 0 in sum and of 100 in mul too
below-zero-sum : masks Sum (negsuc 0) (0 at pos 20 ∷ 1 at pos 0 ∷ []) ≡ 1 ∷ 2 ∷ []
unfolding peal_computes
below-zero-sum = refl

at-zero-sum : masks Sum (pos 0) (0 at pos 20 ∷ 1 at pos 0 ∷ []) ≡ 1 ∷ []
unfolding peal_computes
at-zero-sum = refl

at-unit-mul : masks Mul (pos 100) (0 at pos 50 ∷ 1 at pos 100 ∷ []) ≡ 1 ∷ 2 ∷ []
unfolding peal_computes
at-unit-mul = refl

below-unit-mul : masks Mul (pos 99) (0 at pos 50 ∷ 1 at pos 100 ∷ []) ≡ 1 ∷ []
unfolding peal_computes
below-unit-mul = refl

-- without rules there is no line
no-rule-sum : masks Sum (negsuc 0) [] ≡ []
unfolding peal_computes
no-rule-sum = refl

no-rule-mul : masks Mul (pos 100) [] ≡ []
unfolding peal_computes
no-rule-mul = refl

-- ---- no line that holds a smaller line

no-larger-sum : masks Sum (pos 50) (0 at pos 60 ∷ 1 at pos 10 ∷ []) ≡ 1 ∷ []
unfolding peal_computes
no-larger-sum = refl

no-larger-mul : masks Mul (pos 50) (0 at pos 40 ∷ 1 at pos 10 ∷ []) ≡ 2 ∷ 1 ∷ []
unfolding peal_computes
no-larger-mul = refl

-- ---- the search and the ranks, on the sum policy of document 01's book A and the mul policy of its case f

abbrev book_a : List Rule
book_a = 0 at pos 40 ∷ 1 at pos 30 ∷ 2 at pos 30 ∷ []

search-sum : map mask_of (found_sets (has Sum (pos 50)) (ranked Sum book_a)) ≡ 5 ∷ 3 ∷ 6 ∷ []
unfolding peal_computes found_sets found_from
search-sum = refl

search-mul : map mask_of (found_sets (has Mul (pos 25)) (ranked Mul (0 at pos 50 ∷ 1 at pos 50 ∷ []))) ≡ 3 ∷ []
unfolding peal_computes found_sets found_from
search-mul = refl

ranks : map (rank Sum book_a) book_a ≡ 2 ∷ 0 ∷ 1 ∷ []
unfolding peal_computes rank
ranks = refl
