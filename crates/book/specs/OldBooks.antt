-- Claimed: what change request 2 means for books from before it, whose missing defaults were all 0.
use Rattle.std.specs.Prelude.{ℕ, ◌+◌, ◌≤◌, false, true, List, [], ◌∷◌, ◌++◌, ◌⊎◌, ◌≡◌, length}
use Rattle.std.proofs.Math.Option.{none, some}
use Rattle.answers.specs.Answers.{Answer, result, refused, require}
use Rattle.arith.specs.Members.{Each}
use Rattle.peal.specs.Policies.{Book}
use Rattle.peal.specs.declared.Operator.{Operator}
use Rattle.peal.specs.declared.Operator.TheVariants.{Min, Mul}
use Rattle.limits.specs.Limits.{book_fits}
use Rattle.text.specs.Text.{bytes, Line, text_lines}
use Rattle.text.specs.Forms.{Form, old_zero, policy, operator_word, form}
use Rattle.book.specs.Acceptance.{empty_book}
use Rattle.book.specs.Books.{read_lines, read}

-- reading as it was, of a book without an `o`, which had no form: every default that is left out is 0
unfoldable pub read_before : List ℕ → Answer Book
read_before text =
    require (book_fits (length text)) 1 0
    (read_lines 1 (record { book = empty_book; in_rules = false; old_zero = true }) (text_lines text))

-- no line has this form
abbrev pub NoLineOf : Form → List Line → Type 0
NoLineOf f ls = Each (λ (l : Line). form l.text ≡ some f → ⊥) ls

-- no `min` and no `mul` leaves its default out
abbrev pub AllGiven : List Line → Type 0
AllGiven ls = NoLineOf (policy Min none) ls × NoLineOf (policy Mul none) ls

-- the same answer, a refusal told of the line below
unfoldable pub line_below : {A : Type 0} → Answer A → Answer A
line_below (result a) = result a
line_below (refused number line) = refused number (line + 1)

-- the line `p OP`, and the same with a 0 written
abbrev pub bare_line : Operator → Line
bare_line o = record { text = bytes "p " ++ operator_word o; ended = true }

abbrev pub zero_line : Operator → Line
zero_line o = record { text = bytes "p " ++ operator_word o ++ bytes " 0"; ended = true }

-- these lines, of which some `p OP` have a 0 written
abbrev pub ZerosWritten : List Line → List Line → Type 0
ZerosWritten [] [] = Unit {0}
ZerosWritten [] (m ∷ ms) = ⊥
ZerosWritten (l ∷ ls) [] = ⊥
ZerosWritten (l ∷ ls) (m ∷ ms) =
    ((m ≡ l) ⊎ ((o : Operator) × (l ≡ bare_line o) × (m ≡ zero_line o))) × ZerosWritten ls ms

pub record OldBooks : Type 0 where
  -- a book that leaves out no default of `min` or `mul` is read as it was: the same book, or the same refusal
  pub unchanged : (text : List ℕ) → AllGiven (text_lines text) → read text ≡ read_before text
  -- so is every book with an `o` put above it, if there is room for it
  pub marked : (text : List ℕ) → NoLineOf old_zero (text_lines text) → length text + 2 ≤ 8192
      → read (bytes "o\n" ++ text) ≡ line_below (read_before text)
  -- and so is every book in which each `p min` and `p mul` alone has its 0 written
  pub written : (old new : List ℕ) → ZerosWritten (text_lines old) (text_lines new) → AllGiven (text_lines new)
      → length old ≤ 8192 → length new ≤ 8192 → read new ≡ read_before old
