-- `groups::is_even`: each return by the test that led there.
use Prim.Native.Nat.{◌/◌, ◌%◌}
use mathlib.Core.Bool.{Bool, ◌||◌}
use mathlib.Core.Path.{sym, ap, ◌∙◌}
use native.Mathlib.Omega.{arith}
use borrow.Author.Tests.{ne_eqb}
use Rattle.signals.specs.Sets.{overlap}
use Rattle.signals.proofs.SetLaws.{overlap-and}
use Rattle.groups.proofs.is_even.Goals as goal

pub returns-else-mask-eq0 : goal.returns-else-mask-eq0
returns-else-mask-eq0 c =
    let s = c.args in
    sym (ap (λ (t : Bool). t || overlap (s.mask / 1024) s.group) (ne_eqb (s.mask / 64 % 16) 0 c.if-mask-eq0.false) ∙ overlap-and (s.mask / 1024) s.group (omega (arith, c.requires)))
