-- `cases::main`: the length of the space, by its law: it is too long to be counted.
use Prim.Native.Nat.{ℕ}
use mathlib.Core.Path.{sym}
use lib.ListN.{length-replicate}
use Rattle.cases.proofs.main.Goals as goal

pub slice_bounds-run_lines-end-2 : goal.slice_bounds-run_lines-end-2
slice_bounds-run_lines-end-2 c = sym (length-replicate {0} {A = ℕ} 823808 0)
