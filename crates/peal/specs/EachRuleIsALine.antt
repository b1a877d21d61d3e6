-- Claimed: where the empty set has the property, the lines of sum and mul are the single rules, whatever they score. Proved in proofs/SingleLaws.antt.
use Rattle.std.specs.Prelude.{true, List, [], ◌∷◌, map, ◌≡◌, ℤ, pos}
use Rattle.std.specs.Int.Signed.{le_z, lt_z}
use Rattle.peal.specs.Policies.{Rule}
use Rattle.peal.specs.Ranking.{ranked}
use Rattle.peal.specs.Lines.{lines}
use Rattle.peal.specs.SearchFindsLines.{RulesFit}
use Rattle.peal.specs.declared.Operator.{Operator}
use Rattle.peal.specs.declared.Operator.TheVariants.{Sum, Mul}

-- the lines are the single rules, from the highest rank down; so without rules there is none
abbrev pub EachRule : Operator → ℤ → List Rule → Type 0
EachRule op t rules = lines op t rules ≡ map (λ r. r ∷ []) (ranked op rules)

-- under T below 0 in sum, and under T of 100 or more in mul
pub record EachRuleIsALine : Type 0 where
  pub of_sum : (t : ℤ) (rules : List Rule) → RulesFit Sum rules → lt_z t (pos 0) ≡ true → EachRule Sum t rules
  pub of_mul : (t : ℤ) (rules : List Rule) → RulesFit Mul rules → le_z (pos 100) t ≡ true → EachRule Mul t rules
