-- `rod::is_inside`: one bitwise and tells inclusion.
use mathlib.Core.Path.{sym}
use native.Mathlib.Omega.{arith}
use Rattle.signals.proofs.SetLaws.{inside-and}
use Rattle.rod.specs.Values.{mask_at}
use Rattle.rod.proofs.is_inside.Goals as goal

pub returns : goal.returns
returns c = let a = c.args in sym (inside-and (mask_at a.words.now a.i) a.set (omega arith))
