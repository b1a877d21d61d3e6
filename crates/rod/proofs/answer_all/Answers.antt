-- `rod::answer_all`: the first i answers are those to the first i sets, the others as they were lent.
use mathlib.Core.Path.{◌∙◌}
use Rattle.rod.proofs.Traverses.{answered-more, answered-all}
use Rattle.rod.proofs.answer_all.Goals as goal

pub loop-i-preserved : goal.loop-i-preserved
loop-i-preserved c = let l = c.loop-i in answered-more _ _ _ l.i c.loop-i-test.true c.requires.sets_len l.answers l.invariant _ c.reading.ensures

pub returns : goal.returns
returns c = c.loop-i.invariant ∙ answered-all _ _ _ c.loop-i.i c.loop-i-test.false c.requires.sets_len
