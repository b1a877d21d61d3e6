-- `text::numbers::read_natural`: the digits passed make the value, and the digits left after it make the field's number; i digits stay
-- below 10 ^ i.
use Prim.Native.Nat.{◌^◌, ◌<◌}
use mathlib.Core.Path.{◌≡◌}
use lib.ListN.{drop}
use Rattle.text.specs.Numbers.{with_digits}
use Rattle.text.proofs.numbers.read_natural.Given as goal

abbrev pub invariant-loop-byte : goal.invariant-loop-byte
invariant-loop-byte l = (with_digits l.value (drop l.byte-index l.field) ≡ with_digits 0 l.field) × (l.value < 10 ^ l.byte-index)
