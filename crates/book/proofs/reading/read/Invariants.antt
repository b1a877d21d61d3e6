-- `book::reading::read`: before each line what the code has is the definition's, which goes on from there as the whole book does.
use Prim.Native.Nat.{◌+◌, ◌-◌, ◌≤◌}
use lib.ListN.{length}
use Rattle.book.specs.SoFar.{so_far_of}
use Rattle.book.proofs.ReadLaws.{Going}
use Rattle.book.proofs.reading.read.Given as goal

abbrev pub invariant-loop-at : goal.invariant-loop-at
invariant-loop-at l = (l.line ≤ l.at + 1) × Going l.bytes l.at l.line (so_far_of l.book l.state)

abbrev pub decreases-loop-at : goal.decreases-loop-at
decreases-loop-at l = length l.bytes - l.at
