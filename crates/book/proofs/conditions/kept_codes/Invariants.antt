-- `book::conditions::kept_codes`: so far the codes before code i are kept.
use mathlib.Core.Path.{◌≡◌}
use lib.ListN.{length, take}
use Rattle.text.specs.Codes.{code_cells}
use Rattle.book.proofs.conditions.kept_codes.Given as goal

abbrev pub invariant-loop-i : goal.invariant-loop-i
invariant-loop-i l = (length l.kept ≡ code_cells) × (take l.i l.kept ≡ take l.i l.codes)
