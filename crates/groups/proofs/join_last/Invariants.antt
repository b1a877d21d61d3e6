-- `groups::join_last`: the words before the next are joined.
use Prim.Native.Nat.{◌-◌}
use Rattle.rod.specs.Values.{join_meaning}
use Rattle.groups.proofs.Words.{Joining}
use Rattle.groups.proofs.join_last.Given as goal

abbrev pub invariant-loop-k : goal.invariant-loop-k
invariant-loop-k l = Joining (join_meaning l.or) (l.height - 2) l.initial.values l.values l.k
