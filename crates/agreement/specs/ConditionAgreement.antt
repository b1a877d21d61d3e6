-- Claimed for a whole condition: on the words of its listing the rod never refuses, and says what the scored decision says. Proved in proofs/Conditions.antt.
use Rattle.std.specs.Prelude.{ℕ, ◌≤◌, ◌≡◌}
use Rattle.answers.specs.Answers.{result}
use Rattle.arith.specs.Leaves.{leaf_count}
use Rattle.layout.specs.Records.{words}
use Rattle.rod.specs.Reading.{rod_answer}
use Rattle.peal.specs.Policies.{Condition, Book}
use Rattle.peal.specs.Score.{decision}
use Rattle.translation.specs.Translation.{listing_records}
use Rattle.book.specs.Ranges.{BookInRange}

-- for a book in range and a condition of at most 16 mentions, on every signal set, those with an excluded pair among them
abbrev pub ConditionAgreement : Type 0
ConditionAgreement =
    (b : Book) (c : Condition) (set : ℕ) → BookInRange b → leaf_count c.expression ≤ 16
    → rod_answer (words (listing_records b c)) set ≡ result (decision b.policies c set)
