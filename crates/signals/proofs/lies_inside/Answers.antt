-- `signals::lies_inside`: `mask & set == mask` is inclusion, and holds for no mask over 65,535.
use mathlib.Core.Path.{sym}
use native.Mathlib.Omega.{arith}
use Rattle.signals.proofs.SetLaws.{set-inside-and}
use Rattle.signals.proofs.lies_inside.Goals as goal

pub returns : goal.returns
returns c = sym (set-inside-and c.args.mask c.args.set (omega arith))
