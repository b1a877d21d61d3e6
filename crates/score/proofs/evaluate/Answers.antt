-- `score::evaluate`: the score, or why there is no such condition.
use Rattle.std.proofs.Common.{ap, ◌∙◌}
use Rattle.std.proofs.lemmas.Result.{err_from_is_err_and}
use Rattle.answers.specs.Answers.{result}
use Rattle.answers.proofs.Results.{on-equal}
use Rattle.score.specs.Shown.{shown_answer}
use Rattle.score.specs.declared.exact.Exact.{Exact}
use Rattle.score.proofs.ShownLaws.{pair-shown}
use Rattle.score.proofs.evaluate.Goals as goal

pub returns-in_err-n : goal.returns-in_err-n
unfolding shown_answer
returns-in_err-n c = let p = err_from_is_err_and c.from_residual.result c.from_residual.ensures.1 in rw (p.1, p.2) (on-equal _ c.in_err-n.ensures)

pub returns : goal.returns
unfolding shown_answer
returns c = ap (λ (x : Exact). result x) (pair-shown _ _ c.expression_score.ensures) ∙ on-equal _ c.in_ok-n.ensures.told
