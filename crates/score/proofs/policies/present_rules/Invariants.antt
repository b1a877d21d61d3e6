-- `score::policies::present_rules`: of the rules after those that are left, what is present is what the definition keeps.
use Rattle.std.proofs.Common.{◌≡◌, List, ◌++◌}
use Rattle.peal.specs.Policies.{Rule}
use Rattle.peal.specs.Score.{present_rules}
use Rattle.score.specs.PolicyScores.{present_of}
use Rattle.score.proofs.policies.present_rules.Given as goal

abbrev pub invariant-loop-rule : goal.invariant-loop-rule
invariant-loop-rule l =
    (taken : List Rule) × (l.rule-iterator.iter.rest.now ++ taken ≡ l.policy.rules) × (l.present ≡ present_of l.policy (present_rules l.set taken))
