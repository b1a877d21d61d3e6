-- `score::expressions::expression_score`: before node i the waiting scores lead to the score of the expression.
use Rattle.book.specs.Asked.{the_condition}
use Rattle.score.specs.ExpressionScores.{Underway}
use Rattle.score.proofs.expressions.expression_score.Given as goal

abbrev pub invariant-loop-code : goal.invariant-loop-code
invariant-loop-code l = Underway l.book.policies l.set (the_condition l.book l.n).expression l.code-index l.waiting.items
