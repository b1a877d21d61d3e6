-- `rod::with_join`: each return by the tests that led there.
use Rattle.rod.proofs.ValueLaws.{or-none, or_some, and_both, and-not}
use Rattle.rod.proofs.with_join.Goals as goal

pub returns-then-yes-eq0 : goal.returns-then-yes-eq0
returns-then-yes-eq0 c = or-none _ _ c.if-or.true c.if-yes-eq0.true

pub returns-else-yes-eq0 : goal.returns-else-yes-eq0
returns-else-yes-eq0 c = or_some _ _ c.if-or.true c.if-yes-eq0.false

pub returns-then-yes-eq2 : goal.returns-then-yes-eq2
returns-then-yes-eq2 c = and_both _ _ c.if-or.false c.if-yes-eq2.true

pub returns-else-yes-eq2 : goal.returns-else-yes-eq2
returns-else-yes-eq2 c = and-not _ _ c.if-or.false c.if-yes-eq2.false
