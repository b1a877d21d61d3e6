-- `groups::Policy::put`: the words before the next are put.
use Prim.Native.Nat.{ℕ, ◌<◌}
use mathlib.Core.Path.{◌≡◌}
use lib.ListN.{length, get_or}
use Rattle.blocks.specs.Blocks.{WordOf}
use Rattle.groups.specs.Values.{policy_bit}
use Rattle.groups.proofs.Policy.put.Given as goal

abbrev pub invariant-loop-k : goal.invariant-loop-k
invariant-loop-k g l =
    (length l.table ≡ 16)
    × ((k : ℕ) → k < l.k → (shared : ℕ) × goal.F-post g l.overlap k shared × WordOf (policy_bit shared (get_or l.self.found k 0) l.self.turn l.self.still) (get_or l.table k 0))
