-- `score::is_met`: the score of the expression against the threshold.
use Rattle.std.proofs.Common.{arith}
use Rattle.std.proofs.lemmas.Int.{to_z-of_z}
use Rattle.peal.specs.Score.{decision}
use Rattle.score.proofs.ConditionLaws.{condition-read}
use Rattle.score.proofs.is_met.Goals as goal

pub returns : goal.returns
unfolding decision
returns c =
    let read = condition-read c.args.book.now _ c.requires _ c.conditions.ensures.conditions _ c.index-conditions-n.is in
    let met = c.meets.ensures _ c.expression_score-score.ensures in
    grind (arith, to_z-of_z)
