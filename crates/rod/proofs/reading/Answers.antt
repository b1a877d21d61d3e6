-- `rod::reading`: the nodes to come say what the whole listing says; each turn takes one node and its lines.
use native.Mathlib.Omega.{arith}
use Rattle.rod.specs.Values.{node_end}
use Rattle.rod.proofs.Steps.{begins, ends}
use Rattle.rod.proofs.reading.Goals as goal

pub loop-at-init : goal.loop-at-init
loop-at-init c = begins _ _ c.requires

pub loop-at-smaller : goal.loop-at-smaller
unfolding node_end
loop-at-smaller c = omega (arith, c.next_index-end.ensures, c.loop-at-test.true)

pub returns : goal.returns
returns c = ends _ _ _ _ c.loop-at-test.false c.loop-at.invariant
