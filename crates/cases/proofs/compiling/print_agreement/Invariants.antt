-- `cases::compiling::print_agreement`: each turn goes one step on.
use Rattle.std.proofs.Common.{◌-◌, ◌≤◌}
use Rattle.cases.proofs.compiling.print_agreement.Given as goal

abbrev pub invariant-loop-set : goal.invariant-loop-set
invariant-loop-set g l = (l.yes ≤ l.set) × (l.no ≤ l.set)

abbrev pub decreases-loop-set : goal.decreases-loop-set
decreases-loop-set g l = 65536 - l.set
