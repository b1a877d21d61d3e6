-- `text::bytes::next_byte`: no x stands among the four bytes.
use native.Mathlib.Omega.{arith}
use Rattle.text.proofs.TextLaws.{x-further_four}
use Rattle.text.proofs.bytes.next_byte.Goals as goal

pub loop-i-preserved : goal.loop-i-preserved
loop-i-preserved c = grind (arith, x-further_four)
