-- `groups::spread`: the masks reach each set below the next signal.
use Prim.Native.Nat.{ℕ}
use mathlib.Core.List.{List}
use Rattle.groups.specs.Groups.{Reached}
use Rattle.groups.proofs.spread.Given as goal

abbrev pub invariant-loop-signal : goal.invariant-loop-signal
invariant-loop-signal l = (masks : List ℕ) (group : ℕ) → Reached 0 masks group l.fn.table → Reached l.signal masks group l.table
