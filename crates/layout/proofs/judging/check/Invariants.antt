-- `layout::check`: the judgement from here on is the verdict.
use Prim.Native.Nat.{◌-◌, ◌/◌, ◌≤◌}
use mathlib.Core.Path.{◌≡◌}
use lib.ListN.{length}
use Rattle.layout.specs.Judgement.{judged, verdict}
use Rattle.layout.specs.Steps.{so_far_meaning, records_from}
use Rattle.layout.proofs.judging.check.Given as goal

abbrev pub invariant-loop-i : goal.invariant-loop-i
invariant-loop-i l = (l.above.values ≤ l.above.policies) × (judged l.i (so_far_meaning l.above) (records_from l.words l.i) ≡ verdict l.words)

abbrev pub decreases-loop-i : goal.decreases-loop-i
decreases-loop-i l = length l.words / 4 - l.i
