-- How many conditions an accepted book has.
use Prim.Native.Nat.{ℕ, ◌≤◌}
use mathlib.Core.List.{List}
use mathlib.Core.Path.{◌≡◌, ap}
use native.Mathlib.Omega.{arith}
use lib.ListN.{length}
use Rattle.answers.specs.Answers.{result}
use Rattle.answers.proofs.Results.{result-is, gone-on}
use Rattle.book.specs.Books.{read, Counts, checked}
use Rattle.book.proofs.BoundedLaws.{read-in-range}

pub conditions-few : (bytes : List ℕ) (n : Counts) → checked bytes ≡ result n → n.conditions ≤ 8
unfolding checked
conditions-few bytes n h =
    let (b, r, is) = gone-on (read bytes) _ n h in
    omega (arith, (read-in-range bytes b r).conditions_room, ap (λ (m : Counts). m.conditions) (result-is is))
