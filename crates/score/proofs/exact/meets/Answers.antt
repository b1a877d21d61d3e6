-- `score::exact::meets`: the threshold without a remainder, and the order by sense.
use Rattle.std.proofs.Common.{arith}
use Rattle.std.proofs.lemmas.Int.{to_z-of_z}
use Rattle.peal.specs.Score.{meets}
use Rattle.score.proofs.PairLaws.{below, at-most}
use Rattle.score.proofs.exact.meets.Goals as goal

pub returns-in-Above : goal.returns-in-Above
unfolding meets
returns-in-Above c v i = let b = below _ _ _ _ c.whole-limit.ensures i in grind (arith, to_z-of_z)

pub returns-in-AtMost : goal.returns-in-AtMost
unfolding meets
returns-in-AtMost c v i = let b = at-most _ _ _ _ i c.whole-limit.ensures in grind (arith, to_z-of_z)
