-- The condition that was asked for, and its book, are in range.
use Prim.Native.Nat.{ℕ}
use mathlib.Core.List.{List}
use mathlib.Core.Path.{◌≡◌, subst}
use lib.ListN.{length}
use Rattle.answers.specs.Answers.{result}
use Rattle.answers.proofs.Results.{result-is, gone-on}
use Rattle.peal.specs.Policies.{Condition, Book}
use Rattle.book.specs.Books.{read, condition_at, asked}
use Rattle.book.specs.Ranges.{ConditionInRange, BookInRange}
use Rattle.book.proofs.BoundedLaws.{read-in-range}
use Rattle.book.proofs.ConditionLaws.{each-condition}

abbrev InRange : Book × Condition → Type 0
InRange x = BookInRange x.0 × ConditionInRange (length x.0.policies) x.1

pub asked-in-range : (bytes : List ℕ) (number : ℕ) (b : Book) (c : Condition) → asked bytes number ≡ result (b, c)
    → BookInRange b × ConditionInRange (length b.policies) c
unfolding asked
asked-in-range bytes number b c e =
    let (k, r, f) = gone-on (read bytes) _ (b, c) e in
    let (d, g, h) = gone-on (condition_at k.conditions number) _ (b, c) f in
    let range = read-in-range bytes k r in
    subst InRange (result-is h) (range, each-condition (ConditionInRange (length k.policies)) k.conditions number d range.conditions g)
