-- `compiler::searching::search`: what is left to be found is all that is left to be put; each call has fewer rules to come.
use Rattle.compiler.specs.Searching.{Point, Searching}
use Rattle.compiler.proofs.SearchTurns.{Underway}
use Rattle.compiler.proofs.searching.+search.Given as goal

-- the rules still to come
abbrev pub decreases-search : goal.decreases-search
decreases-search g l = l.rank

abbrev pub invariant-loop-left : goal.invariant-loop-left
invariant-loop-left g l = (p : Point) → Searching l.plan l.taken l.rank p → Underway g.L.Lines.after l.initial.lines l.lines l.plan l.taken p l.rank l.left
