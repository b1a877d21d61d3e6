-- `compiler::planning::planned`: there are rows for as many rules as were taken, from the lowest rank on.
use Prim.Native.Nat.{◌-◌, ◌^◌, ◌≤◌}
use mathlib.Core.List.{List}
use mathlib.Core.Path.{◌≡◌, refl, sym, ap, ap₂, subst, ◌∙◌}
use native.Mathlib.Omega.{arith}
use borrow.Author.Rules.{rules}
use lib.IntN.{ℤ}
use lib.ListN.{length, get_or}
use lib.Signed.{mag}
use mir.Syntax.{w32, w64}
use mir.ValLaws.{to_z-of_z}
use Rattle.arith.proofs.Signed.{wide_back}
use Rattle.peal.specs.Policies.{Rule, Policy}
use Rattle.peal.specs.Ranking.{ranked}
use Rattle.peal.specs.Standins.{no_rule}
use Rattle.peal.specs.Combining.{combined_of}
use Rattle.peal.specs.declared.Operator.{Operator}
use Rattle.book.proofs.RangeLaws.{rules-at-most}
use Rattle.compiler.specs.Planning.{ThresholdFits, in_rank_order}
use Rattle.compiler.proofs.RankedLaws.{ranked-length, ranked-in-range}
use Rattle.compiler.proofs.RowLaws.{PlannedTo, planned-start, signal-small, last-small, more-small, planned-turn, planned-end}
use Rattle.compiler.proofs.planning.planned.Goals as goal

-- the rules of a policy, ranked by its operator, are those of the policy in rank order
policy-ranked : (q : Policy) {o : Operator} {rules order : List Rule} → order ≡ ranked o rules → o ≡ q.operator → rules ≡ q.rules → order ≡ (in_rank_order q).rules
unfolding in_rank_order
policy-ranked q order operator rules = order ∙ ap₂ ranked operator rules

pub loop-i-init : goal.loop-i-init
unfolding in_rank_order
loop-i-init c =
    planned-start c.operator-operator.ensures (to_z-of_z w64 c.first_limit.result (search rules) ∙ c.first_limit.ensures)
    (to_z-of_z w64 c.initial.result (search rules) ∙ c.initial.ensures) c.new-rows.ensures c.push.ensures.items
    (ap (λ (l : List Rule). length l) c.rules-count.ensures.rules ∙ sym (ranked-length c.args.policy.now))

-- a policy has at most as many rules as are ranked
pub in_rank_order-rules-requires : goal.in_rank_order-rules-requires
in_rank_order-rules-requires c =
    omega (arith, ap (λ (l : List Rule). length l) c.rules.ensures.rules, rules-at-most _ c.rules.ensures.range)

-- ---- one rule more

pub bounds-deref-i : goal.bounds-deref-i
unfolding in_rank_order
bounds-deref-i c =
    omega (arith, ap (λ (l : List Rule). length l) (c.deref.ensures.0 ∙ policy-ranked c.args.policy.now c.in_rank_order-rules.ensures c.operator-operator.ensures c.rules.ensures.rules), c.loop-i.invariant.split, c.loop-i-test.true)

pub next_limit-requires : goal.next_limit-requires
unfolding in_rank_order no_rule
next_limit-requires c =
    let range = ranked-in-range c.args.policy.now c.rules-count.ensures.range in
    let is = ap (λ (l : List Rule). get_or l (c.loop-i.i - 1) no_rule) (c.deref.ensures.0 ∙ policy-ranked c.args.policy.now c.in_rank_order-rules.ensures c.operator-operator.ensures c.rules.ensures.rules) in
    subst (λ (z : ℤ). mag z ≤ 10 ^ 16) (sym (to_z-of_z w64 c.loop-i.row.limit (search rules)))
    (last-small c.operator-operator.ensures c.loop-i.invariant c.loop-i-test.true range is (subst ThresholdFits (sym (to_z-of_z w32 c.args.threshold c.ranges.threshold)) c.requires))

pub combined-requires : goal.combined-requires
unfolding in_rank_order no_rule
combined-requires c =
    let range = ranked-in-range c.args.policy.now c.rules-count.ensures.range in
    let is = ap (λ (l : List Rule). get_or l (c.loop-i.i - 1) no_rule) (c.deref.ensures.0 ∙ policy-ranked c.args.policy.now c.in_rank_order-rules.ensures c.operator-operator.ensures c.rules.ensures.rules) in
    let score = (get_or c.deref.result.now (c.loop-i.i - 1) no_rule).score in
    subst (λ (z : ℤ). mag z ≤ 10 ^ 16)
    (sym (ap₂ (combined_of c.operator-operator.result) (wide_back score (search rules)) (to_z-of_z w64 c.loop-i.row.rest (search rules))))
    (more-small c.operator-operator.ensures c.loop-i.invariant c.loop-i-test.true range is)

pub bit-requires : goal.bit-requires
unfolding in_rank_order no_rule
bit-requires c =
    let range = ranked-in-range c.args.policy.now c.rules-count.ensures.range in
    let is = ap (λ (l : List Rule). get_or l (c.loop-i.i - 1) no_rule) (c.deref.ensures.0 ∙ policy-ranked c.args.policy.now c.in_rank_order-rules.ensures c.operator-operator.ensures c.rules.ensures.rules) in
    signal-small c.operator-operator.ensures c.loop-i.invariant c.loop-i-test.true range is

pub push-requires-in-loop-i : goal.push-requires-in-loop-i
push-requires-in-loop-i c =
    let range = ranked-in-range c.args.policy.now c.rules-count.ensures.range in
    (omega arith, omega (arith, c.loop-i.invariant.count, c.loop-i.invariant.split, c.loop-i-test.true, range.few))

pub loop-i-preserved : goal.loop-i-preserved
unfolding in_rank_order no_rule
loop-i-preserved c =
    let range = ranked-in-range c.args.policy.now c.rules-count.ensures.range in
    let is = ap (λ (l : List Rule). get_or l (c.loop-i.i - 1) no_rule) (c.deref.ensures.0 ∙ policy-ranked c.args.policy.now c.in_rank_order-rules.ensures c.operator-operator.ensures c.rules.ensures.rules) in
    let score = wide_back (get_or c.deref.result.now (c.loop-i.i - 1) no_rule).score (search rules) in
    planned-turn c.operator-operator.ensures c.loop-i.invariant c.loop-i-test.true range is
    (λ k e. to_z-of_z w64 c.next_limit.result (search rules) ∙ c.next_limit.ensures _ k (to_z-of_z w64 c.loop-i.row.limit (search rules) ∙ e))
    (to_z-of_z w64 c.combined.result (search rules) ∙ c.combined.ensures
    ∙ ap₂ (combined_of c.operator-operator.result) score (to_z-of_z w64 c.loop-i.row.rest (search rules)))
    score c.bit.ensures c.push-in-loop-i.ensures.items

pub returns : goal.returns
unfolding in_rank_order
returns c =
    planned-end c.operator-operator.ensures
    (subst (λ (t : ℤ). PlannedTo (in_rank_order c.args.policy.now) t c.loop-i.row c.loop-i.rows.items c.loop-i.i) (to_z-of_z w32 c.args.threshold c.ranges.threshold) c.loop-i.invariant)
    c.loop-i-test.false refl refl (ranked-in-range c.args.policy.now c.rules-count.ensures.range) c.requires
