-- `groups::reading`: the nodes to come say of each set what the whole listing says; a turn takes a node and its lines.
use Prim.Native.Nat.{◌-◌, ◌/◌}
use lib.ListN.{length}
use Rattle.groups.specs.Values.{GroupUnderway}
use Rattle.groups.proofs.reading.Given as goal

abbrev pub invariant-loop-at : goal.invariant-loop-at
invariant-loop-at l = GroupUnderway l.words l.group l.at l.values l.height

abbrev pub decreases-loop-at : goal.decreases-loop-at
decreases-loop-at l = length l.words / 4 - l.at
