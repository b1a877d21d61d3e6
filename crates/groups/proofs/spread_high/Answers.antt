-- `groups::spread_high`: the words before the next are spread.
use Prim.Native.Nat.{◌-◌, ◌<◌}
use native.Mathlib.Omega.{arith}
use Rattle.arith.proofs.Bits.{bit_is}
use Rattle.arith.proofs.Tables.{written-more, written_all}
use Rattle.groups.proofs.SpreadLaws.{high_word, high-spread, spread-by}
use Rattle.groups.proofs.spread_high.Goals as goal

pub loop-k-preserved : goal.loop-k-preserved
loop-k-preserved c =
    let most : c.args.signal - 6 < 4 = omega arith in
    written-more _ _ _ _ _ c.loop-k.invariant (omega arith) (λ k l e. omega arith) _
    (high_word _ _ _ _ _ most (omega arith) (bit_is (c.args.signal - 6) 64 (omega arith)) c.loop-k.invariant)

pub returns : goal.returns
returns c =
    spread-by _ _ _ c.requires.least
    (high-spread _ _ _ c.told-table (written_all _ _ _ 16 c.loop-k.k _ (omega arith) c.loop-k.invariant))
