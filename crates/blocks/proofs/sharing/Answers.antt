-- `blocks::sharing`: each return by the test that led there.
use Rattle.blocks.proofs.BlockLaws.{sharing-where, sharing-nowhere}
use Rattle.blocks.proofs.sharing.Goals as goal

pub returns-then-low-signal-eq1 : goal.returns-then-low-signal-eq1
returns-then-low-signal-eq1 c = sharing-where _ _ c.if-low-signal-eq1.true _ c.having.ensures

pub returns-else-low-signal-eq1 : goal.returns-else-low-signal-eq1
returns-else-low-signal-eq1 c = sharing-nowhere _ _ c.if-low-signal-eq1.false
