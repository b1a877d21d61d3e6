-- `exports::told`: yes and no by their number, or the refusal.
use mathlib.Core.Bool.{Bool, true, false}
use mathlib.Core.Path.{◌≡◌, refl, ap, ◌∙◌}
use mir.Val.{bool_byte}
use Rattle.layout.specs.Records.{one_if}
use Rattle.exports.specs.Packing.{as_one}
use Rattle.exports.proofs.told.Goals as goal

byte-is-one-if : (b : Bool) → bool_byte b ≡ one_if b
unfolding one_if
byte-is-one-if true = refl
byte-is-one-if false = refl

pub returns-in-Ok : goal.returns-in-Ok
returns-in-Ok g c = rw c.in-Ok.is (c.accepted.ensures ∙ ap (as_one 0) (byte-is-one-if c.in-Ok.yes))
