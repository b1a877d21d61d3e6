-- `blocks::low_overlap`: the signals before the next are told.
use mathlib.Core.Bool.{◌&&◌}
use Rattle.arith.specs.Lists.{exists, below}
use Rattle.signals.specs.Sets.{present}
use Rattle.blocks.specs.Blocks.{WordOf}
use Rattle.blocks.proofs.low_overlap.Given as goal

abbrev pub invariant-loop-signal : goal.invariant-loop-signal
invariant-loop-signal l = WordOf (λ j. exists (λ s. present l.low s && present j s) (below l.signal)) l.word
