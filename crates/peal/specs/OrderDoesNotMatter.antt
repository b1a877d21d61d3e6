-- Claimed: a property depends only on which rules are there, not on their order. Proved in proofs/InsideLaws.antt.
use mathlib.Core.List.{List, Permᴰ}
use Rattle.std.specs.Prelude.{◌≡◌, ℤ}
use Rattle.peal.specs.Policies.{Rule}
use Rattle.peal.specs.Lines.{has}
use Rattle.peal.specs.declared.Operator.{Operator}

-- the same rules in another order have the property too: the book's order, or rank order
abbrev pub OrderDoesNotMatter : Type 0
OrderDoesNotMatter = (o : Operator) (t : ℤ) (X Y : List Rule) → Permᴰ X Y → has o t X ≡ has o t Y
