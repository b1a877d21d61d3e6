-- `groups::spread_low`: the words before the next are spread.
use native.Mathlib.Omega.{arith}
use Rattle.arith.proofs.Tables.{written_all}
use Rattle.groups.proofs.SpreadLaws.{low-spread}
use Rattle.groups.proofs.spread_low.Goals as goal

pub returns : goal.returns
returns c = low-spread _ _ _ c.requires c.told-table (written_all _ _ _ 16 c.loop-word.word-index _ (omega arith) c.loop-word.invariant)
