-- `checks::choice`: the listing's refusal, or the choice check of a sound listing.
use Rattle.std.proofs.lemmas.Result.{err_from_is_err_and}
use Rattle.checks.proofs.Answers.{choice-declined}
use Rattle.checks.proofs.choice.Goals as goal

pub returns-in_err-listing : goal.returns-in_err-listing
returns-in_err-listing c =
    let p = err_from_is_err_and c.from_residual.result c.from_residual.ensures.1 in
    rw (p.1, p.2) (choice-declined _ _ _ c.in_err-listing.ensures)
