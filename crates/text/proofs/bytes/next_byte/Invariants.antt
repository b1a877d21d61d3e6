-- `text::bytes::next_byte`: no x stands between `at` and i; each byte that is not x carries this on by one place.
use Prim.Native.Nat.{◌+◌, ◌-◌, ◌≤◌}
use mathlib.Core.Path.{◌≡◌}
use lib.ListN.{length, drop}
use Rattle.text.specs.Spelling.{up_to}
use Rattle.text.proofs.bytes.next_byte.Given as goal

abbrev pub invariant-loop-i : goal.invariant-loop-i
invariant-loop-i l = (l.i ≤ length l.bytes) × (l.at + up_to l.byte (drop l.at l.bytes) ≡ l.i + up_to l.byte (drop l.i l.bytes))

abbrev pub decreases-loop-i : goal.decreases-loop-i
decreases-loop-i l = length l.bytes - l.i

abbrev pub invariant-loop-j : goal.invariant-loop-j
invariant-loop-j l = l.at + up_to l.byte (drop l.at l.bytes) ≡ l.j + up_to l.byte (drop l.j l.bytes)
