-- `layout::judging::next_node`: what is sought from the start is what is sought from here on.
use Prim.Native.Nat.{◌+◌}
use mathlib.Core.Path.{◌≡◌}
use Rattle.layout.specs.Records.{kinds}
use Rattle.layout.specs.Judgement.{next_node}
use Rattle.layout.specs.Steps.{records_from}
use Rattle.layout.proofs.judging.next_node.Given as goal

abbrev pub invariant-loop-i : goal.invariant-loop-i
invariant-loop-i l = next_node (l.i + 1) (kinds (records_from l.words l.i)) ≡ next_node (l.from + 1) (kinds (records_from l.words l.from))
