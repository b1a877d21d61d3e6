-- `blocks::low_overlap`: the signals before the next are told.
use native.Mathlib.Omega.{arith}
use Rattle.signals.proofs.BitLaws.{present-none}
use Rattle.blocks.proofs.BlockLaws.{overlap-more, overlap-done}
use Rattle.blocks.proofs.low_overlap.Goals as goal

pub loop-signal-init : goal.loop-signal-init
loop-signal-init c j h = present-none j

pub loop-signal-preserved : goal.loop-signal-preserved
loop-signal-preserved c = overlap-more _ _ _ _ c.sharing-word.ensures c.loop-signal.invariant

pub returns : goal.returns
returns c = let l = c.loop-signal in overlap-done _ _ l.signal c.requires (omega arith) l.invariant
