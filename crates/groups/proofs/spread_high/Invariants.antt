-- `groups::spread_high`: the words before the next are spread.
use Prim.Native.Nat.{◌-◌}
use Rattle.arith.specs.Tables.{Written}
use Rattle.groups.proofs.SpreadLaws.{HighWord}
use Rattle.groups.proofs.spread_high.Given as goal

abbrev pub invariant-loop-k : goal.invariant-loop-k
invariant-loop-k l = Written (λ n. n) (HighWord (l.signal - 6) l.initial.table) l.k l.initial.table l.table
