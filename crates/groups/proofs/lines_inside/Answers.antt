-- `groups::lines_inside`: the lines are put into an empty table, and spread.
use Rattle.groups.proofs.SpreadLaws.{none_inside, reached-none, reached-all}
use Rattle.groups.proofs.lines_inside.Goals as goal

pub returns-then-from-end : goal.returns-then-from-end
returns-then-from-end c = none_inside _ _ _ _ c.if-from-end.true

pub returns : goal.returns
returns c = reached-all _ _ _ c.requires.group c.requires.masks_at.sets (c.spread.ensures _ _ (reached-none _ _ _ _ _ c.gather.ensures))
