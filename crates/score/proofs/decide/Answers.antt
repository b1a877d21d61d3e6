-- `score::decide`: the decision, or why there is no such condition.
use Rattle.std.proofs.lemmas.Result.{err_from_is_err_and}
use Rattle.answers.proofs.Results.{on-equal}
use Rattle.score.specs.Decisions.{scored_answer}
use Rattle.score.proofs.decide.Goals as goal

pub returns-in_err-n : goal.returns-in_err-n
unfolding scored_answer
returns-in_err-n c = let p = err_from_is_err_and c.from_residual.result c.from_residual.ensures.1 in rw (p.1, p.2) (on-equal _ c.in_err-n.ensures)

pub returns : goal.returns
unfolding scored_answer
returns c = rw c.is_met.ensures (on-equal _ c.in_ok-n.ensures.told)
