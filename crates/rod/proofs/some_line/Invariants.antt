-- `rod::some_line`: each line that does not lie inside the set carries the walk on by one place.
use Prim.Native.Nat.{◌-◌}
use Rattle.rod.proofs.Lines.{Walk}
use Rattle.rod.proofs.some_line.Given as goal

abbrev pub invariant-loop-i : goal.invariant-loop-i
invariant-loop-i l = Walk l.words l.from l.end l.set l.i

abbrev pub decreases-loop-i : goal.decreases-loop-i
decreases-loop-i l = l.end - l.i

abbrev pub invariant-loop-rest : goal.invariant-loop-rest
invariant-loop-rest l = Walk l.words l.from l.end l.set l.rest
