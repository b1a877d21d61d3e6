-- `checks::permitted_up_to`: the sets of the blocks before this one are counted.
use Prim.Native.Nat.{ℕ, ◌+◌, ◌*◌, ◌≤◌}
use mathlib.Core.Bool.{Bool, not}
use mathlib.Core.Path.{◌≡◌}
use Rattle.arith.specs.Lists.{count_below}
use Rattle.groups.specs.Groups.{GroupOf}
use Rattle.checks.proofs.permitted_up_to.Given as goal

abbrev pub invariant-loop-k : goal.invariant-loop-k
invariant-loop-k l = (l.count ≤ 64 * l.k)
    × ((test : ℕ → Bool) (group : ℕ) → GroupOf (λ set. not (test set)) group l.barred → count_below (1024 * group + 64 * l.k) test ≡ count_below (1024 * group) test + l.count)
