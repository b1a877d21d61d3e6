-- `compiler::nodes::put_nodes`: what is written before node i leads to the listing.
use Rattle.compiler.proofs.NodeTurns.{WrittenTo}
use Rattle.compiler.proofs.nodes.put_nodes.Given as goal

abbrev pub invariant-loop-i : goal.invariant-loop-i
invariant-loop-i l = WrittenTo l.book l.condition l.first l.i l.at l.initial.words l.words
