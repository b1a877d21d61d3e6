-- `blocks::all_if`: each return by the test that led there.
use mathlib.Core.Path.{sym, ◌∙◌}
use Rattle.signals.proofs.BitLaws.{present-none, present-all}
use Rattle.blocks.proofs.all_if.Goals as goal

pub returns-then-yes : goal.returns-then-yes
returns-then-yes c = λ j h. present-all 64 j h ∙ sym c.if-yes.true

pub returns-else-yes : goal.returns-else-yes
returns-else-yes c = λ j h. present-none j ∙ sym c.if-yes.false
