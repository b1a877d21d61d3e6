-- `score::policies::rule_score`: the rule's score where its signal is present.
use Rattle.std.proofs.Common.{arith}
use Rattle.std.proofs.lemmas.Int.{to_z-of_z}
use Rattle.score.specs.PolicyScores.{rule_score}
use Rattle.score.proofs.policies.rule_score.Goals as goal

pub returns : goal.returns
unfolding rule_score
returns c = grind (arith, to_z-of_z)
