-- `compiler::planning::next_limit`: only in mul the limit grows.
use Prim.Native.Nat.{◌+◌}
use mathlib.Core.Path.{◌≡◌, refl, ◌∙◌}
use native.Mathlib.Omega.{arith}
use lib.IntN.{pos, ◌*ℤ◌}
use mir.Syntax.{w64}
use mir.ValLaws.{to_z-of_z}
use Rattle.arith.proofs.Signed.{both-back}
use Rattle.peal.specs.declared.Operator.{Operator}
use Rattle.compiler.specs.Worth.{limit_of}
use Rattle.compiler.proofs.LimitLaws.{hundredfold-fits, next-hundredfold, not-mul}
use Rattle.compiler.proofs.planning.next_limit.Goals as goal

pub returns-in-Mul : goal.returns-in-Mul
returns-in-Mul c t k e =
    both-back w64 ◌*ℤ◌ c.args.limit (pos 100) c.ranges.limit (record { sfits = omega arith }) (hundredfold-fits c.args.limit c.requires)
    ∙ next-hundredfold c.args.operator c.in-Mul.is c.args.limit t k e

pub returns : goal.returns
unfolding limit_of
returns c t k e =
    to_z-of_z w64 c.args.limit c.ranges.limit ∙ e
    ∙ not-mul (λ (o : Operator). limit_of o t k ≡ limit_of o t (k + 1)) c.args.operator c.in_default.not-Mul refl refl refl
