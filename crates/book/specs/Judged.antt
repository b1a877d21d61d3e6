-- What the code's verdict on a line means.
use Rattle.std.specs.Prelude.{ℕ, Bool, true, ◌≡◌, ltb, Result, Ok, Err}
use Rattle.answers.specs.Answers.{Answer, result, refused}
use Rattle.peal.specs.Policies.{Book}
use Rattle.text.specs.Forms.{Form}
use Rattle.text.specs.declared.expressions.Code.{Code}
use Rattle.text.specs.declared.expressions.Code.TheVariants.{Min, Max, Policy}
use Rattle.book.specs.Acceptance.{BookSoFar, book_with, opens_rules, old_zero_after, accept}
use Rattle.book.specs.Meaning.{reason_number}
use Rattle.book.specs.SoFar.{so_far_of}
use Rattle.book.specs.declared.Reason.{Reason}
use Rattle.book.specs.declared.acceptance.SoFar.{SoFar}

-- the book so far with the line added
unfoldable pub with_line : BookSoFar → Form → BookSoFar
with_line so_far f = record { book = book_with so_far f; in_rules = opens_rules f; old_zero = old_zero_after so_far f }

-- a verdict on line n: what stands so far after the line, or the refusal
abbrev pub judged_meaning : ℕ → Result (Unit {0}) Reason → BookSoFar → Answer BookSoFar
judged_meaning n (Ok fine) next = result next
judged_meaning n (Err reason) next = refused (reason_number reason) n

-- the verdict on this form, whichever line it is
abbrev pub Judged : BookSoFar → Form → Result (Unit {0}) Reason → Type 0
Judged so_far f verdict = (n : ℕ) → judged_meaning n verdict (with_line so_far f) ≡ accept n so_far f

-- the verdict on a form that depends on the book alone
abbrev pub JudgedBy : Book → Form → Result (Unit {0}) Reason → Type 0
JudgedBy b f verdict = (state : SoFar) → Judged (so_far_of b state) f verdict

-- the code of a join, or of one of the first n policies
abbrev pub code_below : ℕ → Code ℕ → Bool
code_below n Min = true
code_below n Max = true
code_below n (Policy k) = ltb k n
