-- `score::policies::present_rules`: of the rules after those that are left, what is present is what the definition keeps.
use Rattle.std.proofs.Common.{[], ◌∷◌, arith, append-nil, ◌∙◌}
use Rattle.std.proofs.lemmas.Int.{to_z-of_z}
use Rattle.peal.specs.Score.{present_rules}
use Rattle.score.specs.PolicyScores.{present_of}
use Rattle.score.proofs.RuleLaws.{one_taken, present-counted, absent-left, signal-small, count-small, value-kept}
use Rattle.score.proofs.policies.present_rules.Goals as goal

pub loop-rule-init : goal.loop-rule-init
unfolding present_of present_rules
loop-rule-init c = ([], rw append-nil (cc), grind (arith, to_z-of_z))

pub rule_score-requires : goal.rule_score-requires
rule_score-requires c =
    let all = one_taken _ _ _ _ _ c.loop-rule.invariant.1 c.in-Some.ensures.steps in
    signal-small c.args.policy.now c.rules.ensures.range c.args.set _ _ _ all

pub with_score-present-requires : goal.with_score-present-requires
with_score-present-requires c =
    let all = one_taken _ _ _ _ _ c.loop-rule.invariant.1 c.in-Some.ensures.steps in
    let few = count-small c.args.policy.now c.rules.ensures.range c.args.set _ _ _ all in
    let small = value-kept c.args.policy.now c.rules.ensures.range c.args.set _ _ _ all in
    let next = present-counted c.args.policy.now c.args.set c.in-Some.rule.now c.loop-rule.invariant.0 _ c.in-Some-rule_score.ensures in
    (grind arith, grind (arith, to_z-of_z))

pub loop-rule-preserved-in-Some-rule_score : goal.loop-rule-preserved-in-Some-rule_score
loop-rule-preserved-in-Some-rule_score c =
    let next = present-counted c.args.policy.now c.args.set c.in-Some.rule.now c.loop-rule.invariant.0 _ c.in-Some-rule_score.ensures in
    (c.in-Some.rule.now ∷ c.loop-rule.invariant.0, one_taken _ _ _ _ _ c.loop-rule.invariant.1 c.in-Some.ensures.steps, grind (arith, to_z-of_z))

pub loop-rule-preserved : goal.loop-rule-preserved
loop-rule-preserved c = (
  c.in-Some.rule.now ∷ c.loop-rule.invariant.0,
  one_taken _ _ _ _ _ c.loop-rule.invariant.1 c.in-Some.ensures.steps,
  c.loop-rule.invariant.2 ∙ absent-left _ _ _ _ c.in_default.ensures,
)
