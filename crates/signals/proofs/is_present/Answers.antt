-- `signals::is_present`: the set shifted by the signal has a lowest bit.
use mathlib.Core.Path.{refl}
use lib.Bits.{and_mask}
use Rattle.signals.specs.Sets.{present}
use Rattle.signals.proofs.is_present.Goals as goal

pub returns : goal.returns
unfolding present
returns c = rw (and_mask _ 1) refl
