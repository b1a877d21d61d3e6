-- `limits::default_in_range`: what is kept of the number is the number.
use Rattle.std.proofs.Common.{arith}
use Rattle.std.proofs.lemmas.Int.{to_z-of_z}
use Rattle.limits.specs.Limits.{default_in_range}
use Rattle.limits.proofs.default_in_range.Goals as goal

pub returns : goal.returns
unfolding default_in_range
returns c = grind (arith, to_z-of_z)
