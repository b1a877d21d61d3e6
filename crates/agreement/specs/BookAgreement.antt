-- Claimed for every book: rod and logger never disagree. Proved in proofs/Books.antt.
use Rattle.std.specs.Prelude.{ℕ, List, ◌≡◌}
use Rattle.answers.specs.Answers.{result}
use Rattle.layout.specs.Records.{words}
use Rattle.rod.specs.Reading.{rod_answer}
use Rattle.peal.specs.Policies.{Condition, Book}
use Rattle.translation.specs.Translation.{listing_records}
use Rattle.book.specs.Books.{asked}
use Rattle.score.specs.Decisions.{scored_answer}

-- for every byte string and condition number that are accepted, on every signal set: the rod on the condition's listing answers as the scored decision does
abbrev pub BookAgreement : Type 0
BookAgreement =
    (bytes : List ℕ) (number set : ℕ) (b : Book) (c : Condition) → asked bytes number ≡ result (b, c)
    → rod_answer (words (listing_records b c)) set ≡ scored_answer bytes number set
