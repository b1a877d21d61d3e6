-- What the code keeps for the search through a policy's rules in falling rank.
use Rattle.std.specs.Prelude.{ℕ, ◌+◌, ◌-◌, ◌≤◌, ◌<◌, true, List, [], ◌∷◌, ◌≡◌, ℤ, pos, length, get_or, drop}
use Rattle.arith.specs.Members.{Each}
use Rattle.signals.specs.Sets.{set_of}
use Rattle.peal.specs.Policies.{Rule, Policy}
use Rattle.peal.specs.Standins.{no_rule}
use Rattle.peal.specs.Ranking.{ranked}
use Rattle.peal.specs.declared.Operator.{Operator}
use Rattle.peal.specs.declared.Operator.TheVariants.{Mul}
use Rattle.limits.specs.Limits.{score_in_range, threshold_in_range}
use Rattle.compiler.specs.Worth.{worth, limit_of}
use Rattle.compiler.specs.declared.planning.Row.{Row}
use Rattle.compiler.specs.declared.planning.Plan.{Plan}

-- T is in range
abbrev pub ThresholdFits : ℤ → Type 0
ThresholdFits t = threshold_in_range t ≡ true

-- the policy with its rules in falling rank
unfoldable pub in_rank_order : Policy → Policy
in_rank_order q = record { operator = q.operator; default = q.default; rules = ranked q.operator q.rules }

-- the k rules of lowest rank, of rules in falling rank
unfoldable pub rest_of : ℕ → List Rule → List Rule
rest_of k rules = drop (length rules - k) rules

-- the first of these
unfoldable pub next_rule : Policy → ℕ → Rule
next_rule q k = get_or q.rules (length q.rules - k) no_rule

-- what the search needs of rules: signals and scores in range, at most 16, at most 8 in mul
pub record RulesInRange (o : Operator) (rules : List Rule) : Type 0 where
  pub signals : Each (λ (r : Rule). r.signal < 16) rules
  pub scores : Each (λ (r : Rule). score_in_range o r.score ≡ true) rules
  pub few : length rules ≤ 16
  pub room : o ≡ Mul → length rules ≤ 8

-- ---- the plan

-- no row
abbrev pub no_row : Row
no_row = record { limit = pos 0; rest = pos 0; score = pos 0; bit = 0 }

-- row k
abbrev pub row_at : Plan → ℕ → Row
row_at plan k = get_or plan.rows.items k no_row

-- what row k holds: the limit of the sets of k rules, the operator over the k rules of lowest rank, and the score and the bit of the first of these
pub record RowFor (row : Row) (q : Policy) (t : ℤ) (k : ℕ) : Type 0 where
  pub limit : row.limit ≡ limit_of q.operator t k
  pub rest : row.rest ≡ worth q.operator (rest_of k q.rules)
  pub score : 0 < k → row.score ≡ (next_rule q k).score
  pub bit : 0 < k → row.bit ≡ set_of ((next_rule q k).signal ∷ [])

-- the plan is that of a policy whose rules stand in falling rank, under threshold t
pub record PlanFor (plan : Plan) (q : Policy) (t : ℤ) : Type 0 where
  pub operator : plan.operator ≡ q.operator
  pub range : RulesInRange q.operator q.rules
  pub fits : ThresholdFits t
  pub count : length plan.rows.items ≡ length q.rules + 1
  pub rows : (k : ℕ) → k ≤ length q.rules → RowFor (row_at plan k) q t k
