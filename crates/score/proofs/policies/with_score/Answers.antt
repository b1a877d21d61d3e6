-- `score::policies::with_score`: the first score, or another.
use Rattle.std.proofs.Common.{arith}
use Rattle.std.proofs.lemmas.Int.{to_z-of_z}
use Rattle.score.specs.PolicyScores.{value_with, with_score}
use Rattle.score.proofs.policies.with_score.Goals as goal

pub combined-value-requires : goal.combined-value-requires
unfolding with_score value_with
combined-value-requires c = grind (arith, to_z-of_z)

pub returns : goal.returns
unfolding with_score value_with
returns c = grind (arith, to_z-of_z)
