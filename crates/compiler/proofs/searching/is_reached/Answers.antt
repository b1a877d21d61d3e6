-- `compiler::searching::is_reached`: an operator at a time.
use mathlib.Core.Path.{sym, ap, ap₂, ◌∙◌}
use native.Mathlib.Omega.{arith}
use lib.IntN.{pos, ◌*ℤ◌}
use lib.Signed.{le_z, lt_z}
use mir.Syntax.{w64}
use mir.ValLaws.{to_z-of_z}
use Rattle.arith.proofs.Signed.{both-back}
use Rattle.peal.specs.declared.Operator.{Operator}
use Rattle.compiler.specs.Worth.{reached_of}
use Rattle.compiler.proofs.LimitLaws.{hundredfold-fits}
use Rattle.compiler.proofs.searching.is_reached.Goals as goal

pub returns-in-Sum : goal.returns-in-Sum
unfolding reached_of
returns-in-Sum c =
    let a = c.args in
    ap₂ lt_z (to_z-of_z w64 a.limit c.ranges.limit) (to_z-of_z w64 a.value c.ranges.value) ∙ ap (λ (o : Operator). reached_of o a.limit a.value) (sym c.in-Sum.is)

pub returns-in-Max : goal.returns-in-Max
unfolding reached_of
returns-in-Max c =
    let a = c.args in
    ap₂ lt_z (to_z-of_z w64 a.limit c.ranges.limit) (to_z-of_z w64 a.value c.ranges.value) ∙ ap (λ (o : Operator). reached_of o a.limit a.value) (sym c.in-Max.is)

pub returns-in-Min : goal.returns-in-Min
unfolding reached_of
returns-in-Min c =
    let a = c.args in
    ap₂ le_z (to_z-of_z w64 a.value c.ranges.value) (to_z-of_z w64 a.limit c.ranges.limit) ∙ ap (λ (o : Operator). reached_of o a.limit a.value) (sym c.in-Min.is)

pub returns-in-Mul : goal.returns-in-Mul
unfolding reached_of
returns-in-Mul c =
    let a = c.args in
    ap₂ le_z (both-back w64 ◌*ℤ◌ a.value (pos 100) c.ranges.value (record { sfits = omega arith }) (hundredfold-fits a.value c.requires)) (to_z-of_z w64 a.limit c.ranges.limit)
    ∙ ap (λ (o : Operator). reached_of o a.limit a.value) (sym c.in-Mul.is)
