-- `compiler::planning::clamped`: as the library clamps.
use mathlib.Core.Path.{ap, ◌∙◌}
use borrow.Author.Rules.{rules}
use lib.IntN.{ℤ, pos, negsuc}
use mir.Syntax.{w64}
use mir.ValLaws.{to_z-of_z}
use Rattle.std.specs.Int.{int_min, int_max}
use Rattle.arith.proofs.Signed.{wide_back}
use Rattle.compiler.proofs.LimitLaws.{clamped-as}
use Rattle.compiler.proofs.planning.clamped.Goals as goal

pub returns : goal.returns
returns c =
    to_z-of_z w64 c.clamp.result (search rules) ∙ c.clamp.ensures.value
    ∙ ap (λ (z : ℤ). int_max (negsuc 0) (int_min z (pos 100))) (wide_back c.args.threshold c.ranges.threshold) ∙ clamped-as c.args.threshold
