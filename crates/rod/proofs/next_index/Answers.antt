-- `rod::next_index`: `next` is 0 where no node follows, and one more than the index of the next node otherwise.
use Rattle.rod.proofs.Steps.{next-zero, next_more}
use Rattle.rod.proofs.next_index.Goals as goal

pub returns-then-next-eq0 : goal.returns-then-next-eq0
returns-then-next-eq0 c = next-zero _ _ c.requires.at_in_bounds c.requires.node_at c.if-next-eq0.true

pub returns-else-next-eq0 : goal.returns-else-next-eq0
returns-else-next-eq0 c = next_more _ _ c.requires.at_in_bounds c.requires.node_at c.if-next-eq0.false
