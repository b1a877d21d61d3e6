-- `checks::lowest_apart`: no set of the blocks before this one passes the test.
use Prim.Native.Nat.{ℕ, ◌*◌}
use mathlib.Core.Bool.{Bool}
use mathlib.Core.Option.{none}
use mathlib.Core.Path.{◌≡◌}
use Rattle.checks.specs.Checks.{lowest_from}
use Rattle.checks.specs.Walking.{GroupApart}
use Rattle.checks.proofs.lowest_apart.Given as goal

abbrev pub invariant-loop-k : goal.invariant-loop-k
invariant-loop-k l = (test : ℕ → Bool) → GroupApart test l.group l.barred l.also l.first l.second → lowest_from (64 * l.k) (1024 * l.group) test ≡ none
