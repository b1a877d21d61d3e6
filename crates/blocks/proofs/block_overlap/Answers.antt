-- `blocks::block_overlap`: each return by the test that led there.
use mathlib.Core.Path.{sym, ◌∙◌}
use Rattle.signals.proofs.BitLaws.{present-all}
use Rattle.blocks.proofs.BlockLaws.{overlap-low, overlap-always}
use Rattle.blocks.proofs.block_overlap.Goals as goal

pub returns-then-mask-block-eq0 : goal.returns-then-mask-block-eq0
returns-then-mask-block-eq0 c = let p = c.requires in λ j h. p.low_told.told j h ∙ sym (overlap-low _ _ j p.low_told.set p.block_bound h c.if-mask-block-eq0.true)

pub returns-else-mask-block-eq0 : goal.returns-else-mask-block-eq0
returns-else-mask-block-eq0 c = let p = c.requires in λ j h. present-all 64 j h ∙ sym (overlap-always _ _ j p.low_told.set p.block_bound h c.if-mask-block-eq0.false)
