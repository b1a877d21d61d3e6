-- `rod::with_value`: each return by the test that led there.
use Rattle.rod.proofs.ValueLaws.{value-yes, value-no}
use Rattle.rod.proofs.with_value.Goals as goal

pub returns-then-value : goal.returns-then-value
returns-then-value c = value-yes _ _ c.if-value.true

pub returns-else-value : goal.returns-else-value
returns-else-value c = value-no _ _ c.if-value.false
