-- `compiler::nodes::is_quiet`: hundredths are compared as they are.
use Prim.Native.Nat.{◌^◌}
use mathlib.Core.Path.{sym, ap, ap₂, ◌∙◌}
use native.Mathlib.Omega.{arith}
use borrow.Author.Rules.{rules}
use lib.Signed.{le_z, lt_z}
use mir.Syntax.{w32}
use mir.ValLaws.{to_z-of_z}
use Rattle.arith.proofs.Order.{le_z-scale, lt_z-scale}
use Rattle.peal.specs.Score.{scaled, meets}
use Rattle.peal.specs.declared.Sense.{Sense}
use Rattle.translation.specs.Translation.{quiet}
use Rattle.compiler.proofs.nodes.is_quiet.Goals as goal

pub returns-in-Above : goal.returns-in-Above
unfolding meets scaled quiet
returns-in-Above c =
    let t = c.args.condition.now.threshold in
    let d = c.args.policy.now.default in
    ap₂ lt_z (to_z-of_z w32 c.threshold-threshold.result (search rules) ∙ c.threshold-threshold.ensures)
    (to_z-of_z w32 c.default_score-default.result (search rules) ∙ c.default_score-default.ensures)
    ∙ sym (lt_z-scale t d (10 ^ 14) (omega arith)) ∙ ap (λ (x : Sense). meets x t (scaled d)) (sym c.in-Above.is ∙ c.sense.ensures)

pub returns-in-AtMost : goal.returns-in-AtMost
unfolding meets scaled quiet
returns-in-AtMost c =
    let t = c.args.condition.now.threshold in
    let d = c.args.policy.now.default in
    ap₂ le_z (to_z-of_z w32 c.default_score-default.result (search rules) ∙ c.default_score-default.ensures)
    (to_z-of_z w32 c.threshold-threshold.result (search rules) ∙ c.threshold-threshold.ensures)
    ∙ sym (le_z-scale d t (10 ^ 14) (omega arith)) ∙ ap (λ (x : Sense). meets x t (scaled d)) (sym c.in-AtMost.is ∙ c.sense.ensures)
