-- `checks::empty_gives`: bit 0 of the first word is that of the empty set.
use Prim.Native.Nat.{ℕ}
use mathlib.Core.Path.{sym, ap, ◌∙◌}
use lib.Bits.{and_mask}
use lib.Dec.{eqb}
use lib.ListN.{get_or}
use borrow.Author.Tests.{eq-eqb}
use Rattle.signals.proofs.SetLaws.{present-zero}
use Rattle.checks.proofs.empty_gives.Goals as goal

pub returns-then-group-eq0 : goal.returns-then-group-eq0
returns-then-group-eq0 c = rw (eq-eqb _ 0 c.if-group-eq0.true) (ap (λ (x : ℕ). eqb x 1) (and_mask (get_or c.args.said.now 0 0) 1) ∙ sym (present-zero _))
