-- Computed examples of scores: document 01's "Misreadings to shut out" (those of lines are in Examples.antt).
use Prim.Native.Nat.{ℕ}
use mathlib.Core.List.{List, [], ◌∷◌}
use mathlib.Core.Path.{◌≡◌, refl}
use lib.IntN.{ℤ, pos, negsuc}
use Rattle.peal.specs.Policies.{Rule}
use Rattle.peal.specs.Score.{scaled, policy_score}
use Rattle.peal.specs.Computing.{peal_computes}
use Rattle.peal.specs.declared.Operator.{Operator}
use Rattle.peal.specs.declared.Operator.TheVariants.{Min, Max, Sum, Mul}
use Rattle.peal.proofs.Examples.{◌at◌}

-- the score on a set, with a default
abbrev scored : Operator → ℤ → List Rule → ℕ → ℤ
scored op d rules set = policy_score set (record { operator = op; default = d; rules = rules })

-- no unit score for an absent rule of min or max
absent-min : scored Min (pos 0) (0 at pos 150 ∷ 1 at pos 200 ∷ []) 1 ≡ scaled (pos 150)
unfolding peal_computes
absent-min = refl

absent-max : scored Max (pos 0) (0 at negsuc 19 ∷ 1 at pos 30 ∷ []) 1 ≡ scaled (negsuc 19)
unfolding peal_computes
absent-max = refl

-- no default mixed in with present scores, nor used where a rule of score 0 is present
default-sum : scored Sum (pos 30) (0 at pos 40 ∷ []) 1 ≡ scaled (pos 40)
unfolding peal_computes
default-sum = refl

default-zero : scored Sum (pos 30) (0 at pos 0 ∷ []) 1 ≡ scaled (pos 0)
unfolding peal_computes
default-zero = refl

default-min : scored Min (pos 10) (0 at pos 40 ∷ []) 1 ≡ scaled (pos 40)
unfolding peal_computes
default-min = refl

default-max : scored Max (pos 90) (0 at pos 40 ∷ []) 1 ≡ scaled (pos 40)
unfolding peal_computes
default-max = refl

default-mul : scored Mul (pos 50) (0 at pos 40 ∷ []) 1 ≡ scaled (pos 40)
unfolding peal_computes
default-mul = refl

-- and the default alone where no rule is present
no-rule-present : scored Mul (negsuc 49) (0 at pos 40 ∷ []) 2 ≡ scaled (negsuc 49)
unfolding peal_computes
no-rule-present = refl

-- no product rounded step by step: 0.15 × 0.15 × 0.34 is 0.00765 exactly, and 0.01 to the 8 is one part
exact-product : scored Mul (pos 0) (0 at pos 15 ∷ 1 at pos 15 ∷ 2 at pos 34 ∷ []) 7 ≡ pos 76500000000000
unfolding peal_computes
exact-product = refl

one-part : scored Mul (pos 0) (0 at pos 1 ∷ 1 at pos 1 ∷ 2 at pos 1 ∷ 3 at pos 1 ∷ 4 at pos 1 ∷ 5 at pos 1 ∷ 6 at pos 1 ∷ 7 at pos 1 ∷ []) 255 ≡ pos 1
unfolding peal_computes
one-part = refl
