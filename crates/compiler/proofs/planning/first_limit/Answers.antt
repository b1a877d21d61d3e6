-- `compiler::planning::first_limit`: only mul has a limit of its own.
use mathlib.Core.Path.{◌≡◌, refl, sym, ap, ◌∙◌}
use borrow.Author.Rules.{rules}
use mir.Syntax.{w32, w64}
use mir.ValLaws.{to_z-of_z}
use Rattle.arith.proofs.Signed.{wide_back}
use Rattle.peal.specs.declared.Operator.{Operator}
use Rattle.compiler.specs.Worth.{clamped, limit_of}
use Rattle.compiler.proofs.LimitLaws.{clamped-limit, not-mul}
use Rattle.compiler.proofs.planning.first_limit.Goals as goal

pub returns-in-Mul : goal.returns-in-Mul
returns-in-Mul c =
    let t = c.args.threshold in
    to_z-of_z w64 c.clamped.result (search rules) ∙ c.clamped.ensures ∙ ap clamped (to_z-of_z w32 t c.ranges.threshold) ∙ clamped-limit t
    ∙ ap (λ (o : Operator). limit_of o t 0) (sym c.in-Mul.is)

pub returns : goal.returns
unfolding limit_of
returns c =
    let t = c.args.threshold in
    wide_back t c.ranges.threshold ∙ not-mul (λ (o : Operator). t ≡ limit_of o t 0) c.args.operator c.in_default.not-Mul refl refl refl
