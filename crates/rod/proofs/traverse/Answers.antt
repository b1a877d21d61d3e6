-- `rod::traverse`: unequal slices first, then the verdict on the words; only on a sound listing is an answer written.
use mathlib.Core.Path.{sym, ◌∙◌}
use native.Mathlib.Omega.{arith}
use Rattle.std.proofs.lemmas.Result.{err_from_is_err_and}
use Rattle.rod.proofs.Traverses.{unequal, unsound, answered}
use Rattle.rod.proofs.traverse.Goals as goal

pub returns-then-sets-answers : goal.returns-then-sets-answers
returns-then-sets-answers c = unequal _ _ _ (λ e. omega (arith, c.if-sets-answers.true, e))

pub returns-in_err-check : goal.returns-in_err-check
returns-in_err-check c =
    let p = err_from_is_err_and c.from_residual.result c.from_residual.ensures.1 in
    rw (p.1, p.2) (unsound _ _ _ (omega (arith, c.if-sets-answers.false)) _ (sym c.in_err-check.ensures))

pub returns : goal.returns
returns c =
    let ran = answered _ _ _ (omega (arith, c.if-sets-answers.false)) (sym c.in_ok-check.ensures) in
    record { returning = ran.returning; leaving = c.answer_all.ensures ∙ ran.leaving }
