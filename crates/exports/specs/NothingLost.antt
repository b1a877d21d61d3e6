-- Claimed: the number that a call returns, for a score with the one lent to it, tells its whole answer, for every input; of a
-- traverse of fewer than 2 to the 59 sets its refusal, or how many answers it wrote.
-- Proved in proofs/NothingLost.antt.
use Rattle.std.specs.Prelude.{ℕ, ◌<◌, List, ◌≡◌, length}
use Rattle.layout.specs.Records.{one_if}
use Rattle.rod.specs.Reading.{rod_answer}
use Rattle.rod.specs.Traversing.{traversed, answer_count}
use Rattle.checks.specs.Checks.{chosen, comparison}
use Rattle.book.specs.Books.{checked}
use Rattle.score.specs.Decisions.{scored_answer}
use Rattle.score.specs.Shown.{shown_answer}
use Rattle.compiler.specs.Compiling.{compiled, returned}
use Rattle.exports.specs.Packing.{value_end, packed, counts_value, score_value, remainder_after, itself, answers_value, chosen_value, packed_comparison}
use Rattle.exports.specs.Unpacking.{unpacked, counts_in, yes_in, score_in, chosen_in, comparison_in}

pub record NothingLost : Type 0 where
  pub check : (book : List ℕ) → unpacked counts_in (packed counts_value (checked book)) ≡ checked book
  pub decide : (book : List ℕ) (condition set : ℕ) → unpacked yes_in (packed one_if (scored_answer book condition set)) ≡ scored_answer book condition set
  -- the score from the number that is returned and the one that was lent, whatever this held
  pub score : (book : List ℕ) (condition set lent : ℕ)
      → unpacked (score_in (remainder_after lent (shown_answer book condition set))) (packed score_value (shown_answer book condition set))
      ≡ shown_answer book condition set
  pub compile : (book : List ℕ) (condition lent : ℕ)
      → unpacked itself (packed itself (returned (compiled book condition lent))) ≡ returned (compiled book condition lent)
  pub read : (words : List ℕ) (set : ℕ) → unpacked yes_in (packed one_if (rod_answer words set)) ≡ rod_answer words set
  pub traverse : (words sets answers : List ℕ) → length sets < value_end
      → unpacked itself (packed answers_value (answer_count (traversed words sets answers))) ≡ answer_count (traversed words sets answers)
  pub choose : (words : List ℕ) → unpacked chosen_in (packed chosen_value (chosen words)) ≡ chosen words
  pub compare : (one two : List ℕ) → comparison_in (packed_comparison (comparison one two)) ≡ comparison one two
