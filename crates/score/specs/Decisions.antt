-- The scored decision on a book's bytes: yes, no, or refusals 1 to 7 (document 01, "The scored decision" and "When a call declines").
use Rattle.std.specs.Prelude.{ℕ, Bool, List}
use Rattle.answers.specs.Answers.{Answer, result, on_result}
use Rattle.peal.specs.Score.{decision}
use Rattle.book.specs.Books.{asked}

-- the decision of the condition of that number on a signal set
unfoldable pub scored_answer : List ℕ → ℕ → ℕ → Answer Bool
scored_answer bytes number set = on_result (asked bytes number) (λ (b, c). result (decision b.policies c set))
