-- `limits::within`: what is kept of the numbers is the numbers.
use Rattle.std.proofs.Common.{arith}
use Rattle.std.proofs.lemmas.Int.{to_z-of_z}
use Rattle.limits.specs.Limits.{within}
use Rattle.limits.proofs.within.Goals as goal

pub returns-then-low-z : goal.returns-then-low-z
unfolding within
returns-then-low-z c = grind (arith, to_z-of_z)

pub returns-else-low-z : goal.returns-else-low-z
unfolding within
returns-else-low-z c = grind (arith, to_z-of_z)
