-- What adding a line to the book so far means.
use Rattle.std.specs.Prelude.{ℕ, ◌≤◌, Bool, List, ◌≡◌, eqb, length, Result, Ok, Err, Some}
use Rattle.answers.specs.Answers.{Answer, result, refused}
use Rattle.peal.specs.Policies.{Book}
use Rattle.text.specs.Codes.{code_cells, AreCodes}
use Rattle.text.specs.Forms.{Form, old_zero}
use Rattle.text.specs.LineMeaning.{line_meaning, StartIn}
use Rattle.text.specs.declared.expressions.Code.{Code}
use Rattle.text.specs.declared.lines.Line.{Line}
use Rattle.book.specs.Acceptance.{BookSoFar, accept}
use Rattle.book.specs.Books.{accept_form, read_line}
use Rattle.book.specs.Meaning.{reason_number, refusal_meaning}
use Rattle.book.specs.SoFar.{Bounded, so_far_of}
use Rattle.book.specs.declared.Reason.{Reason}
use Rattle.book.specs.declared.Refusal.{Refusal}
use Rattle.book.specs.declared.acceptance.SoFar.{SoFar}

-- the step of line n, and the book after it: what stands so far, or the refusal
abbrev pub step_meaning : ℕ → Result SoFar Reason → Book → Answer BookSoFar
step_meaning n (Ok state) b = result (so_far_of b state)
step_meaning n (Err reason) b = refused (reason_number reason) n

-- the step of a line of this form, whichever line it is
abbrev pub Adds : BookSoFar → Form → Result SoFar Reason → Book → Type 0
Adds so_far f step b = (n : ℕ) → step_meaning n step b ≡ accept n so_far f

-- the step of an `o`, which leaves the book; `top` tells whether it is line 1
abbrev pub OldZeroAdded : Book → SoFar → (top : Bool) → Result SoFar Reason → Type 0
OldZeroAdded b state top step = (n : ℕ) → top ≡ eqb n 1 → step_meaning n step b ≡ accept n (so_far_of b state) old_zero

-- a condition of these codes can be added
pub record CanAddCondition (so_far : BookSoFar) (codes : List (Code ℕ)) : Type 0 where
  pub bounded : Bounded so_far
  pub few : length codes ≤ code_cells
  pub are : AreCodes codes

-- a form can be added that was read of a line of at most 128 bytes
pub record CanAddForm (so_far : BookSoFar) (text : List ℕ) (f : Line) : Type 0 where
  pub bounded : Bounded so_far
  pub short : length text ≤ 128
  pub start : StartIn text (Some f)

-- the step of a form that was read of a line
abbrev pub FormAdded : BookSoFar → List ℕ → (top : Bool) → Line → Result SoFar Reason → Book → Type 0
FormAdded so_far text top f step b =
    (n : ℕ) → top ≡ eqb n 1 → step_meaning n step b ≡ accept_form n so_far (line_meaning text (Some f))

-- the step of a line
abbrev pub LineAdded : BookSoFar → List ℕ → (ended top : Bool) → Result SoFar Reason → Book → Type 0
LineAdded so_far text ended top step b =
    (n : ℕ) → top ≡ eqb n 1 → step_meaning n step b ≡ read_line n so_far (record { text = text; ended = ended })

-- what reading line n tells, and the book after it
abbrev pub line_answer : Result SoFar Refusal → Book → Answer BookSoFar
line_answer (Ok state) b = result (so_far_of b state)
line_answer (Err r) b = refusal_meaning r

abbrev pub LineRead : BookSoFar → List ℕ → (ended : Bool) → ℕ → Result SoFar Refusal → Book → Type 0
LineRead so_far text ended n answer b = line_answer answer b ≡ read_line n so_far (record { text = text; ended = ended })

-- what reading a book tells, and leaves in the one that was lent
abbrev pub read_meaning : Result (Unit {0}) Refusal → Book → Answer Book
read_meaning (Ok done) b = result b
read_meaning (Err r) b = refusal_meaning r
