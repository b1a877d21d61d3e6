-- `limits::score_in_range`: each operator by its arm.
use Rattle.std.proofs.Common.{arith}
use Rattle.std.proofs.lemmas.Int.{to_z-of_z}
use Rattle.limits.specs.Limits.{score_in_range}
use Rattle.limits.proofs.score_in_range.Goals as goal

pub returns-in-Min : goal.returns-in-Min
unfolding score_in_range
returns-in-Min c = grind (arith, to_z-of_z)

pub returns-in-Max : goal.returns-in-Max
unfolding score_in_range
returns-in-Max c = grind (arith, to_z-of_z)

pub returns-in-Sum : goal.returns-in-Sum
unfolding score_in_range
returns-in-Sum c = grind (arith, to_z-of_z)

pub returns-in-Mul : goal.returns-in-Mul
unfolding score_in_range
returns-in-Mul c = grind (arith, to_z-of_z)
