-- `rod::answer_all`: the first i answers are those to the first i sets, the others as they were lent.
use mathlib.Core.Path.{◌≡◌}
use Rattle.arith.proofs.Filling.{filled}
use Rattle.rod.specs.Traversing.{answers_to}
use Rattle.rod.proofs.answer_all.Given as goal

abbrev pub invariant-loop-i : goal.invariant-loop-i
invariant-loop-i l = l.answers ≡ filled l.i (answers_to l.words l.sets) l.initial.answers
