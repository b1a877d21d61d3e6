-- `checks::compare`: each answer by the verdicts, the first listing's first.
use Rattle.std.proofs.lemmas.Result.{err_from_is_err_and}
use Rattle.checks.proofs.Answers.{first-declined, second-declined}
use Rattle.checks.proofs.compare.Goals as goal

pub returns-in_err-one : goal.returns-in_err-one
returns-in_err-one c =
    let p = err_from_is_err_and c.from_residual.result c.from_residual.ensures.1 in
    let d = c.in_err-one.ensures in
    rw (p.1, p.2, d.listing) (first-declined _ _ _ _ d.fault)

pub returns-in_err-two : goal.returns-in_err-two
returns-in_err-two c =
    let r = c.from_residual-in_err-two in
    let p = err_from_is_err_and r.result r.ensures.1 in
    let d = c.in_err-two.ensures in
    rw (p.1, p.2, d.listing) (second-declined _ _ (rw c.in_ok-one.ensures at c.in_ok-one.one.sound.0) _ _ d.fault)
