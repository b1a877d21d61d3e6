-- `groups::pair_count`: the pairs above the index and those from it on are all pairs.
use Prim.Native.Nat.{◌+◌}
use mathlib.Core.Path.{◌≡◌}
use lib.ListN.{length}
use Rattle.layout.specs.Nodes.{excluded}
use Rattle.layout.specs.Steps.{records_from}
use Rattle.groups.specs.Groups.{pair_count}
use Rattle.groups.proofs.pair_count.Given as goal

abbrev pub invariant-loop-i : goal.invariant-loop-i
invariant-loop-i l = l.i + length (excluded (records_from l.words l.i)) ≡ pair_count l.words
