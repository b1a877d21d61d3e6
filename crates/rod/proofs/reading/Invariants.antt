-- `rod::reading`: the nodes to come say what the whole listing says; each turn takes one node and its lines.
use Prim.Native.Nat.{◌-◌, ◌/◌}
use lib.ListN.{length}
use Rattle.rod.specs.Values.{ReadingUnderway}
use Rattle.rod.proofs.reading.Given as goal

abbrev pub invariant-loop-at : goal.invariant-loop-at
invariant-loop-at l = ReadingUnderway l.words l.set l.at l.values

abbrev pub decreases-loop-at : goal.decreases-loop-at
decreases-loop-at l = length l.words / 4 - l.at
