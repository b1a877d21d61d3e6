-- The whole book (document 01, "When a call declines": book length first, then lines from the top, each tried in the order 1 to 6; then 7).
use Rattle.std.specs.Prelude.{ℕ, zero, suc, ◌+◌, List, [], ◌∷◌, length}
use Rattle.std.proofs.Math.Option.{Option, none, some}
use Rattle.answers.specs.Answers.{Answer, result, refused, on_result, require}
use Rattle.peal.specs.Policies.{Condition, Book}
use Rattle.limits.specs.Limits.{book_fits, line_fits}
use Rattle.text.specs.Text.{Line, text_lines}
use Rattle.text.specs.Forms.{Form, form}
use Rattle.book.specs.Acceptance.{BookSoFar, no_line, accept}

-- line n by its form: 2 where it has none, then 3 to 6
unfoldable pub accept_form : ℕ → BookSoFar → Option Form → Answer BookSoFar
accept_form n so_far none = refused 2 n
accept_form n so_far (some f) = accept n so_far f

-- line n: 1 where it is over 128 bytes, 2 where it has no end or no form, then 3 to 6
unfoldable pub read_line : ℕ → BookSoFar → Line → Answer BookSoFar
read_line n so_far l =
    require (line_fits (length l.text)) 1 n
    (require l.ended 2 n
    (accept_form n so_far (form l.text)))

-- the lines from the top, of which the first is line n
unfoldable pub read_lines : ℕ → BookSoFar → List Line → Answer Book
read_lines n so_far [] = result so_far.book
read_lines n so_far (l ∷ ls) = on_result (read_line n so_far l) (λ next. read_lines (n + 1) next ls)

-- the book's bytes: 1 with line 0 where they are over 8,192, then the lines
unfoldable pub read : List ℕ → Answer Book
read bytes = require (book_fits (length bytes)) 1 0 (read_lines 1 no_line (text_lines bytes))

-- how many policies and conditions a book has
pub record Counts : Type 0 where
  pub policies : ℕ
  pub conditions : ℕ

-- what a check of a book's bytes tells: refusals 1 to 6, or the counts
unfoldable pub checked : List ℕ → Answer Counts
checked bytes =
    on_result (read bytes) (λ b. result (record { policies = length b.policies; conditions = length b.conditions }))

-- the condition of a number, counted from 0; 7 where there is none
unfoldable pub condition_at : List Condition → ℕ → Answer Condition
condition_at [] n = refused 7 0
condition_at (c ∷ cs) zero = result c
condition_at (c ∷ cs) (suc n) = condition_at cs n

-- a book's bytes and a condition's number: the book and the condition, or refusals 1 to 7
unfoldable pub asked : List ℕ → ℕ → Answer (Book × Condition)
asked bytes number = on_result (read bytes) (λ b. on_result (condition_at b.conditions number) (λ c. result (b, c)))
