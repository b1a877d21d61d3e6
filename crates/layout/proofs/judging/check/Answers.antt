-- `layout::check`: the judgement from here on is the verdict.
use native.Mathlib.Omega.{arith}
use Prim.Native.Nat.{◌+◌}
use mathlib.Core.Path.{◌≡◌, sym, ap, ◌∙◌}
use Rattle.std.specs.Prelude.{Some, None}
use Rattle.layout.specs.declared.Fault.TheVariants as Fault
use Rattle.std.proofs.lemmas.Result.{err_from_is_err_and}
use Rattle.layout.specs.Judgement.{no_record}
use Rattle.layout.specs.Steps.{step_meaning}
use Rattle.layout.proofs.JudgementLaws.{judged-on, judged-stop, whole, step-values}
use Rattle.layout.proofs.judging.check.Goals as goal

pub loop-i-init : goal.loop-i-init
unfolding no_record
loop-i-init c = (omega arith, whole _ (grind arith) (omega arith))

pub returns-in_err-above : goal.returns-in_err-above
returns-in_err-above c =
    let p = err_from_is_err_and c.from_residual.result c.from_residual.ensures.1 in
    let s : c.step_at.result ≡ None = grind arith in
    let f : c.in_err-above.field-0.0 ≡ Fault.Record (c.loop-i.i + 1) = grind arith in
    rw (p.1, p.2, f) (sym (judged-stop _ _ _ (omega arith) (sym (ap step_meaning s) ∙ c.step_at.ensures)) ∙ c.loop-i.invariant.1)

pub loop-i-preserved : goal.loop-i-preserved
loop-i-preserved c =
    let s : c.step_at.result ≡ Some c.in_ok-above.above = grind arith in
    let e = sym (ap step_meaning s) ∙ c.step_at.ensures in
    (step-values _ _ _ _ c.loop-i.invariant.0 e, sym (judged-on _ _ _ (omega arith) _ e ∙ c.after_lines-end.ensures.same_judged _ _ e) ∙ c.loop-i.invariant.1)
