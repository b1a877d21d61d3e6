-- The search as the code makes it: the rules taken so far, and what is found from there.
use Rattle.std.specs.Prelude.{ℕ, ◌+◌, ◌≤◌, Bool, List, [], ◌∷◌, ◌++◌, ◌≡◌, ℤ, length}
use Rattle.peal.specs.Policies.{Rule, Policy, mask_of}
use Rattle.peal.specs.Lines.{lines, has}
use Rattle.peal.specs.Search.{found_from}
use Rattle.compiler.specs.Worth.{worth}
use Rattle.compiler.specs.Planning.{rest_of, next_rule, RulesInRange, PlanFor}
use Rattle.compiler.specs.declared.planning.Plan.{Plan}
use Rattle.compiler.specs.declared.searching.Taken.{Taken}

-- a point of the search: a policy whose rules stand in falling rank, a threshold, and the rules taken
pub record Point : Type 0 where
  pub policy : Policy
  pub threshold : ℤ
  pub taken : List Rule

-- some rules have the property that a line must have
abbrev pub having : Point → List Rule → Bool
having p X = has p.policy.operator p.threshold X

-- the rules taken and the `left` rules of lowest rank, which are still to come
abbrev pub all_at : Point → ℕ → List Rule
all_at p left = p.taken ++ rest_of left p.policy.rules

-- the first of those is taken too
abbrev pub taking : Point → ℕ → Point
taking p left = record { policy = p.policy; threshold = p.threshold; taken = p.taken ++ (next_rule p.policy left ∷ []) }

-- the sets found beyond the rules taken, with the rules still to come
unfoldable pub found : Point → ℕ → List (List Rule)
found p left = found_from (having p) p.taken (rest_of left p.policy.rules)

-- what the code has of the rules taken, from its three parts
abbrev pub taken_of : ℕ → ℤ → ℕ → Taken
taken_of count value mask = record { count = count; value = value; mask = mask }

-- the code has what it needs of the rules taken, `left` are still to come, and the plan is that of the policy and the threshold
pub record Searching (plan : Plan) (taken : Taken) (left : ℕ) (p : Point) : Type 0 where
  pub planned : PlanFor plan p.policy p.threshold
  pub counted : taken.count ≡ length p.taken
  pub valued : taken.value ≡ worth p.policy.operator p.taken
  pub masked : taken.mask ≡ mask_of p.taken
  pub among : length p.taken + left ≤ length p.policy.rules
  pub range : RulesInRange p.policy.operator p.taken

-- the search is at some point
abbrev pub CanSearch : Plan → Taken → ℕ → Type 0
CanSearch plan taken left = (p : Point) × Searching plan taken left p

-- so it is at whatever point the search is
abbrev pub ForPoints : Plan → Taken → ℕ → (Point → Type 0) → Type 0
ForPoints plan taken left P = (p : Point) → Searching plan taken left p → P p

-- the lines of a policy under threshold t
abbrev pub lines_of : ℤ → Policy → List (List Rule)
lines_of t p = lines p.operator t p.rules
