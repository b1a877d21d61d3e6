-- `score::policies::policy_score`: the default, or the operator over the present rules.
use Rattle.std.proofs.Common.{◌-◌, ◌^◌, arith, rules, ◌≡◌, to_z, of_z, w64, sym, ap, subst, ◌∙◌}
use Rattle.peal.specs.Score.{scaled}
use Rattle.score.specs.Pairs.{Is}
use Rattle.score.proofs.RuleLaws.{product-back, product-cast, product-is, whole-score, product-score, product-fits}
use Rattle.score.proofs.policies.policy_score.Goals as goal
use Rattle.score.proofs.policies.policy_score.Goals.{in_default-via-in-Mul+else-present-gt0, in_default-via-in_default}

pub overflow_cast-present : goal.overflow_cast-present
overflow_cast-present c =
    product-cast _ (product-fits c.args.set c.args.policy.now _ c.present_rules-present.ensures.counted (sym c.operator.ensures ∙ c.in-Mul.is) c.if-present-gt0.true c.present_rules-present.ensures.range)

pub of_product-requires : goal.of_product-requires
of_product-requires c =
    let p = product-fits c.args.set c.args.policy.now _ c.present_rules-present.ensures.counted (sym c.operator.ensures ∙ c.in-Mul.is) c.if-present-gt0.true c.present_rules-present.ensures.range in
    rw (product-back _ p) (p.bound, p.room)

pub returns-in-Mul : goal.returns-in-Mul
returns-in-Mul c =
    let m = sym c.operator.ensures ∙ c.in-Mul.is in
    let p = product-fits c.args.set c.args.policy.now _ c.present_rules-present.ensures.counted m c.if-present-gt0.true c.present_rules-present.ensures.range in
    subst (Is c.of_product.result)
    (product-is _ p (100 ^ (8 - c.present_rules-present.result.count)) ∙ product-score c.args.set c.args.policy.now _ c.present_rules-present.ensures.counted m c.if-present-gt0.true)
    c.of_product.ensures

pub returns-in_default : goal.returns-in_default
returns-in_default c =
    let so = c.present_rules-present.result in
    let back : to_z w64 (of_z w64 so.value) ≡ so.value = search rules in
    subst (Is c.whole.result)
    (ap scaled back ∙ whole-score c.args.set c.args.policy.now so c.present_rules-present.ensures.counted
    (λ m. elim c.in_default.branch [
      | in_default-via-in-Mul+else-present-gt0 w ↦ omega (arith, w.if-present-gt0.false)
      | in_default-via-in_default w ↦ absurd (w.in_default.not-Mul (c.operator.ensures ∙ m))
    ]))
    c.whole.ensures
