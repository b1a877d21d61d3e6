-- What every accepted book keeps to (document 01, "Ranges" and the limits of "The book"); proved in proofs/BoundedLaws.antt.
use Rattle.std.specs.Prelude.{ℕ, ◌≤◌, ◌<◌, true, List, map, ◌≡◌, length}
use Rattle.std.proofs.Math.Option.{some}
use Rattle.arith.specs.Members.{Each, Distinct}
use Rattle.arith.specs.Leaves.{leaf_count}
use Rattle.peal.specs.Policies.{Rule, Policy, Exclusion, Condition, Book}
use Rattle.peal.specs.declared.Operator.TheVariants.{Mul}
use Rattle.limits.specs.Limits.{exclusion_in_range, default_in_range, score_in_range, threshold_in_range}
use Rattle.book.specs.Acceptance.{mentions_below}

-- the signals of some rules
abbrev pub signals_of : List Rule → List ℕ
signals_of rules = map (λ (r : Rule). r.signal) rules

-- D, the different signals, the scores, and at most 8 rules in mul
pub record PolicyInRange (p : Policy) : Type 0 where
  pub default : default_in_range (some p.default) ≡ true
  pub signals : Each (◌< 16) (signals_of p.rules)
  pub distinct : Distinct (signals_of p.rules)
  pub scores : Each (λ (r : Rule). score_in_range p.operator r.score ≡ true) p.rules
  pub room : p.operator ≡ Mul → length p.rules ≤ 8

-- two different signals
abbrev pub ExclusionInRange : Exclusion → Type 0
ExclusionInRange x = exclusion_in_range x.first x.second ≡ true

-- T, at most 16 mentions, and those of the first n policies alone
pub record ConditionInRange (n : ℕ) (c : Condition) : Type 0 where
  pub threshold : threshold_in_range c.threshold ≡ true
  pub mentions_room : leaf_count c.expression ≤ 16
  pub mentions : mentions_below n c.expression ≡ true

-- at most 16 policies, 16 exclusions and 8 conditions, each in range
pub record BookInRange (b : Book) : Type 0 where
  pub policies_room : length b.policies ≤ 16
  pub exclusions_room : length b.exclusions ≤ 16
  pub conditions_room : length b.conditions ≤ 8
  pub policies : Each PolicyInRange b.policies
  pub exclusions : Each ExclusionInRange b.exclusions
  pub conditions : Each (ConditionInRange (length b.policies)) b.conditions
