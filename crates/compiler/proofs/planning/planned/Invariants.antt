-- `compiler::planning::planned`: there are rows for as many rules as were taken, from the lowest rank on.
use Rattle.compiler.specs.Planning.{in_rank_order}
use Rattle.compiler.proofs.RowLaws.{PlannedTo}
use Rattle.compiler.proofs.planning.planned.Given as goal

abbrev pub invariant-loop-i : goal.invariant-loop-i
invariant-loop-i l = PlannedTo (in_rank_order l.policy) l.fn.threshold l.row l.rows.items l.i
