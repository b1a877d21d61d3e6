-- `checks::permitted_up_to`: the sets of the blocks before this one are counted.
use Prim.Native.Nat.{ℕ, ◌+◌, ◌*◌, ◌/◌, ◌%◌, ◌≤◌}
use mathlib.Core.Path.{◌≡◌, refl, sym, subst}
use native.Mathlib.Omega.{arith}
use Rattle.arith.proofs.Counts.{count-le}
use Rattle.checks.proofs.Counting.{block-counted, last-counted, all-counted}
use Rattle.checks.proofs.permitted_up_to.Goals as goal

pub returns-then-pairs-eq0 : goal.returns-then-pairs-eq0
returns-then-pairs-eq0 c test group all g = all-counted test (1024 * group) _ (all (omega (arith, c.if-pairs-eq0.true)))

-- what block k has among the sets that are counted
few : (c : goal.After-zeros_up_to-count) → c.zeros_up_to-count.result ≤ 64
few c = subst (λ (n : ℕ). n ≤ 64) (sym c.zeros_up_to-count.ensures) (count-le _ 64)

pub overflow_add-count : goal.overflow_add-count
overflow_add-count c = omega (arith, few c)

pub loop-k-preserved : goal.loop-k-preserved
loop-k-preserved c = (
  omega (arith, few c),
  λ test group g. block-counted test group c.args.barred.now g c.loop-k.k _ (c.loop-k.invariant.1 test group g) (omega arith) _ c.zeros_up_to-count.ensures,
)

-- all blocks before that of place `last` are counted
past : (c : goal.After-zeros_up_to) → c.loop-k.k ≡ c.args.last / 64
past c = omega arith

pub overflow_add-result-2 : goal.overflow_add-result-2
overflow_add-result-2 c =
    let last = c.args.last in
    let e : c.zeros_up_to.result ≤ last % 64 + 1 = subst (λ (n : ℕ). n ≤ last % 64 + 1) (sym c.zeros_up_to.ensures) (count-le _ _) in
    omega (arith, e, past c)

pub returns : goal.returns
returns c test group all g =
    let before = rw (past c) at (c.loop-k.invariant.1 test group g) in
    last-counted test group c.args.barred.now g (c.args.last / 64) _ before (omega arith) _ _ refl c.zeros_up_to.ensures
