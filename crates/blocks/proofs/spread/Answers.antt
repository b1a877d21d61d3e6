-- `blocks::spread`: the signal's weight is how far apart a set with it and the set without it are.
use native.Mathlib.Omega.{arith}
use lib.Pow.{pow-lt}
use Rattle.arith.proofs.Bits.{bit_is}
use Rattle.blocks.proofs.BlockLaws.{spread-word}
use Rattle.blocks.proofs.spread.Goals as goal

pub overflow_shl-result : goal.overflow_shl-result
overflow_shl-result c = omega (arith, bit_is c.args.signal 32 (omega arith), pow-lt {i = c.args.signal} {j = 6} c.requires)

pub returns : goal.returns
returns c = spread-word _ _ _ _ (bit_is c.args.signal 32 (omega arith)) c.having.ensures
