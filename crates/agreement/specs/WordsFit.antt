-- Claimed: the words of a condition's listing fit 32 bits, so that they can be handed to the rod. Proved in proofs/Words.antt.
use Rattle.std.specs.Prelude.{◌^◌, ◌≤◌, ◌<◌}
use Rattle.arith.specs.Members.{Each}
use Rattle.arith.specs.Leaves.{leaf_count}
use Rattle.layout.specs.Records.{words}
use Rattle.peal.specs.Policies.{Condition, Book}
use Rattle.translation.specs.Translation.{listing_records}
use Rattle.book.specs.Ranges.{BookInRange}

-- for a book in range and a condition of at most 16 mentions
abbrev pub WordsFit : Type 0
WordsFit =
    (b : Book) (c : Condition) → BookInRange b → leaf_count c.expression ≤ 16
    → Each (◌< 2 ^ 32) (words (listing_records b c))
