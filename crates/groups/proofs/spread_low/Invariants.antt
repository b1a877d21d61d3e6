-- `groups::spread_low`: the words before the next are spread.
use Rattle.arith.specs.Tables.{Written}
use Rattle.groups.proofs.SpreadLaws.{LowWord}
use Rattle.groups.proofs.spread_low.Given as goal

abbrev pub invariant-loop-word : goal.invariant-loop-word
invariant-loop-word l = Written (λ n. n) (LowWord l.signal l.initial.table) l.word-index l.initial.table l.table
