-- `signals::bit`: a shift of 1 by less than the width loses no bit.
use native.Mathlib.Omega.{arith}
use Rattle.arith.proofs.Bits.{bit_is}
use Rattle.signals.specs.Sets.{set_of}
use Rattle.signals.proofs.bit.Goals as goal

pub returns : goal.returns
unfolding set_of
returns c = omega (arith, bit_is c.args.signal 32 (omega arith))
