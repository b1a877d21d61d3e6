-- `compiler::nodes::line_counts`: so far the lines of the nodes before node i are counted.
use mathlib.Core.List.{map}
use mathlib.Core.Path.{◌≡◌}
use lib.ListN.{take}
use Rattle.compiler.proofs.CodedNodes.{lines_at}
use Rattle.compiler.proofs.nodes.line_counts.Given as goal

abbrev pub invariant-loop-i : goal.invariant-loop-i
invariant-loop-i l = l.lines.items ≡ map (lines_at l.book l.condition) (take l.i l.codes)
