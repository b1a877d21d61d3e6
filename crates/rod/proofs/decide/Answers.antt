-- `rod::decide`: the listing's refusal, or what a sound listing says.
use mathlib.Core.Path.{sym}
use Rattle.std.proofs.lemmas.Result.{err_from_is_err_and}
use Rattle.rod.proofs.Steps.{answers, declines}
use Rattle.rod.proofs.decide.Goals as goal

pub returns-in_err-check : goal.returns-in_err-check
returns-in_err-check c =
    let p = err_from_is_err_and c.from_residual.result c.from_residual.ensures.1 in
    rw (p.1, p.2) (declines _ _ _ _ (sym c.in_err-check.ensures))

pub returns : goal.returns
returns c = answers _ _ (sym c.in_ok-check.ensures) _ c.reading.ensures
