-- `score::expressions::expression_score`: before node i the waiting scores lead to the score of the expression.
use Rattle.std.proofs.Common.{length, arith, lit<, ap}
use Rattle.peal.specs.Policies.{smaller, larger}
use Rattle.text.specs.Codes.{code_of}
use Rattle.score.proofs.PairLaws.{the-smaller, the-larger}
use Rattle.score.proofs.NodeLaws.{at-start}
use Rattle.score.proofs.ConditionLaws.{is_read, policy-read, policy-there, mention-room, past-mention, two-there, one-fits, past-join, one-there, score-left}
use Rattle.score.proofs.expressions.expression_score.Goals as goal
use Rattle.score.proofs.expressions.expression_score.Goals.{in-Policy, in-Min, in-Max}

pub loop-code-init : goal.loop-code-init
loop-code-init c = rw c.new-waiting.ensures (at-start c.args.book.now.policies c.args.set _)

-- ---- a mention

pub bounds-policies-k : goal.bounds-policies-k
bounds-policies-k c =
    let r = is_read _ _ c.requires c.conditions.ensures.range _ c.conditions.ensures.conditions _ c.index-conditions-n.is _ c.codes-code-items.ensures in
    let there = policy-there r c.loop-code.invariant c.loop-code-test.true c.in-Policy.is in
    omega (arith, ap length c.policies-policies.ensures.policies)

pub push-requires : goal.push-requires
push-requires c =
    let r = is_read _ _ c.requires c.conditions.ensures.range _ c.conditions.ensures.conditions _ c.index-conditions-n.is _ c.codes-code-items.ensures in
    (lit< tt, mention-room r c.loop-code.invariant c.loop-code-test.true c.in-Policy.is)

-- ---- a join

pub last_two-requires : goal.last_two-requires
unfolding code_of
last_two-requires c =
    let r = is_read _ _ c.requires c.conditions.ensures.range _ c.conditions.ensures.conditions _ c.index-conditions-n.is _ c.codes-code-items.ensures in
    two-there r c.loop-code.invariant c.loop-code-test.true smaller c.in-Min.is

pub push-requires-in-Min : goal.push-requires-in-Min
unfolding code_of
push-requires-in-Min c =
    let r = is_read _ _ c.requires c.conditions.ensures.range _ c.conditions.ensures.conditions _ c.index-conditions-n.is _ c.codes-code-items.ensures in
    (lit< tt, one-fits r c.loop-code.invariant c.loop-code-test.true smaller c.in-Min.is _ _ _ c.last_two.ensures)

pub last_two-requires-in-Max : goal.last_two-requires-in-Max
unfolding code_of
last_two-requires-in-Max c =
    let r = is_read _ _ c.requires c.conditions.ensures.range _ c.conditions.ensures.conditions _ c.index-conditions-n.is _ c.codes-code-items.ensures in
    two-there r c.loop-code.invariant c.loop-code-test.true larger c.in-Max.is

pub push-requires-in-Max : goal.push-requires-in-Max
unfolding code_of
push-requires-in-Max c =
    let r = is_read _ _ c.requires c.conditions.ensures.range _ c.conditions.ensures.conditions _ c.index-conditions-n.is _ c.codes-code-items.ensures in
    (lit< tt, one-fits r c.loop-code.invariant c.loop-code-test.true larger c.in-Max.is _ _ _ c.last_two-in-Max.ensures)

-- after each arm the next node is due
pub loop-code-preserved : goal.loop-code-preserved
unfolding code_of
loop-code-preserved c =
    let r = is_read _ _ c.requires c.conditions.ensures.range _ c.conditions.ensures.conditions _ c.index-conditions-n.is _ c.codes-code-items.ensures in
    elim c.match-code.branch [
      | in-Policy w ↦
          let there = policy-there r c.loop-code.invariant c.loop-code-test.true w.in-Policy.is in
          rw (w.waiting-is, w.push.ensures.items)
          (past-mention r c.loop-code.invariant c.loop-code-test.true w.in-Policy.is
          (policy-read _ _ there _ c.policies-policies.ensures.policies _ w.index-policies-k.is) w.policy_score.ensures)
      | in-Min w ↦
          rw (w.waiting-is, w.push-in-Min.ensures.items)
          (past-join r c.loop-code.invariant c.loop-code-test.true smaller w.in-Min.is _ _ _ w.last_two.ensures (λ v u i j. the-smaller _ _ v u i j _ (cc)))
      | in-Max w ↦
          rw (w.waiting-is, w.push-in-Max.ensures.items)
          (past-join r c.loop-code.invariant c.loop-code-test.true larger w.in-Max.is _ _ _ w.last_two-in-Max.ensures (λ v u i j. the-larger _ _ v u i j _ (cc)))
    ]

-- ---- after the last node

pub unreachable-requires : goal.unreachable-requires
unreachable-requires c =
    let r = is_read _ _ c.requires c.conditions.ensures.range _ c.conditions.ensures.conditions _ c.index-conditions-n.is _ c.codes-code-items.ensures in
    let none = c.in_default.ensures.variant.1 (one-there r c.loop-code.invariant c.loop-code-test.false) in
    cc

pub returns : goal.returns
returns c =
    let r = is_read _ _ c.requires c.conditions.ensures.range _ c.conditions.ensures.conditions _ c.index-conditions-n.is _ c.codes-code-items.ensures in
    score-left r c.loop-code.invariant c.loop-code-test.false _ _ c.in-Some.ensures.items
