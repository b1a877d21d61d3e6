-- Policies, expressions and conditions (document 01, "The book"). Scores and thresholds are hundredths of a unit.
use Rattle.std.specs.Prelude.{ℕ, List, [], map, ℤ, pos, get_or}
use Rattle.arith.specs.Trees.{Tree}
use Rattle.signals.specs.Sets.{set_of}
use Rattle.peal.specs.declared.Operator.{Operator}
use Rattle.peal.specs.declared.Operator.TheVariants.{Min}
use Rattle.peal.specs.declared.Sense.{Sense}
use Rattle.peal.specs.declared.Rule.{Rule as RuleStruct}
use Rattle.peal.specs.declared.Exclusion.{Exclusion as ExclusionStruct}

-- signal S, score V: `signal : ℕ`, `score : ℤ`
abbrev pub Rule : Type 0
Rule = RuleStruct

-- the signals of some rules, as a set
unfoldable pub mask_of : List Rule → ℕ
mask_of rules = set_of (map (λ (r : Rule). r.signal) rules)

-- OP, D and the rules in book order
pub record Policy : Type 0 where
  pub operator : Operator
  pub default : ℤ
  pub rules : List Rule

-- `min(E,E)` takes the smaller of two, `max(E,E)` the larger
pub data MinMax : Type 0 where
  smaller larger : MinMax

-- E: mentions of policies by their numbers, joined by min and max
abbrev pub Expression : Type 0
Expression = Tree MinMax ℕ

-- `x A B`: signals A and B never occur together (change request 1), `first : ℕ`, `second : ℕ`; the two as read
abbrev pub Exclusion : Type 0
Exclusion = ExclusionStruct

-- `c T < E`, `c T >= E`
pub record Condition : Type 0 where
  pub sense : Sense
  pub threshold : ℤ
  pub expression : Expression

-- policies, exclusions and conditions, each in order of appearance; policies and conditions are counted from 0
pub record Book : Type 0 where
  pub policies : List Policy
  pub exclusions : List Exclusion
  pub conditions : List Condition

-- stands in for a policy that is not there; no condition of an accepted book mentions one
unfoldable pub empty_policy : Policy
empty_policy = record { operator = Min; default = pos 0; rules = [] }

-- the policy of a number
unfoldable pub policy_at : List Policy → ℕ → Policy
policy_at ps n = get_or ps n empty_policy
