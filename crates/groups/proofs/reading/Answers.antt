-- `groups::reading`: the nodes to come say of each set what the whole listing says; a turn takes a node and its lines.
use native.Mathlib.Omega.{arith}
use Rattle.groups.proofs.GroupSteps.{past_pairs, group-ends}
use Rattle.rod.specs.Values.{node_end}
use Rattle.groups.proofs.reading.Goals as goal

pub loop-at-init : goal.loop-at-init
loop-at-init c = let s = c.requires.sound_group in past_pairs _ _ _ _ c.requires.sixteen_tables s.sound s.within _ (omega arith)

pub loop-at-smaller : goal.loop-at-smaller
unfolding node_end
loop-at-smaller c = omega (arith, c.next_index-end.ensures)

pub returns : goal.returns
returns c = let u = c.loop-at.invariant in record { room = u.room; told = group-ends _ _ _ _ _ (omega arith) u }
