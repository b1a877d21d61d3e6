-- Laws of reading a whole book: the lines one by one, and what the answer tells.
use Prim.Native.Nat.{ℕ, ◌+◌, ◌≤◌, ◌<◌}
use mathlib.Core.Bool.{false, true}
use mathlib.Core.List.{List}
use mathlib.Core.Path.{◌≡◌, sym, ap, ◌∙◌}
use lib.ListN.{length, drop}
use Rattle.answers.specs.Answers.{Answer, result, refused, on_result}
use Rattle.answers.proofs.Results.{result-is, gone-on}
use Rattle.peal.specs.Policies.{Book}
use Rattle.text.specs.Text.{text_lines}
use Rattle.text.specs.Spelling.{up_to}
use Rattle.book.specs.Acceptance.{BookSoFar, no_line}
use Rattle.limits.specs.Limits.{book_fits}
use Rattle.book.specs.Books.{read_line, read_lines, read, Counts, checked}
use Rattle.book.specs.SoFar.{Bounded}
use Rattle.text.proofs.TextLaws.{line_to, line_at, no-line-at}
use Rattle.book.proofs.BoundedLaws.{bounded-start, line-bounded}

-- ---- the book, line by line

pub read-too-long : (s : List ℕ) → book_fits (length s) ≡ false → read s ≡ refused 1 0
unfolding read
read-too-long s h = rw h

pub read-lines : (s : List ℕ) → book_fits (length s) ≡ true → read_lines 1 no_line (text_lines s) ≡ read s
unfolding read
read-lines s h = rw h

read-end : (s : List ℕ) (at n : ℕ) (so : BookSoFar) → length s ≤ at → read_lines n so (text_lines (drop at s)) ≡ result so.book
unfolding read_lines
read-end s at n so h = rw (no-line-at s at h)

-- before line n, at a place: the book so far, from which the definition goes on as the whole book does
pub record Going (s : List ℕ) (at n : ℕ) (so : BookSoFar) : Type 0 where
  pub bounded : Bounded so
  pub same : read_lines n so (text_lines (drop at s)) ≡ read s

pub going-first : (s : List ℕ) → book_fits (length s) ≡ true → Going s 0 1 no_line
going-first s h = record { bounded = bounded-start; same = read-lines s h }

-- the line at the place ends at e, and this is its answer
module _ (s : List ℕ) (at n e : ℕ) (so : BookSoFar) (g : Going s at n so) (h : at < length s) (q : e ≡ at + up_to 10 (drop at s)) where
  then-on : (a : Answer BookSoFar) → a ≡ read_line n so (line_to s at e) → on_result a (λ next. read_lines (n + 1) next (text_lines (drop (e + 1) s))) ≡ read s
  unfolding read_lines
  then-on a is =
      ap (λ (x : Answer BookSoFar). on_result x (λ next. read_lines (n + 1) next (text_lines (drop (e + 1) s)))) is
      ∙ sym (ap (read_lines n so) (line_at s at e h q)) ∙ g.same

  pub going-refused : (k v : ℕ) → refused k v ≡ read_line n so (line_to s at e) → refused k v ≡ read s
  going-refused k v is = then-on (refused k v) is

  pub going_on : (next : BookSoFar) → result next ≡ read_line n so (line_to s at e) → Going s (e + 1) (n + 1) next
  going_on next is = record { bounded = line-bounded n so next (line_to s at e) g.bounded (sym is); same = then-on (result next) is }

pub going-end : (s : List ℕ) (at n : ℕ) (so : BookSoFar) → Going s at n so → length s ≤ at → result so.book ≡ read s
going-end s at n so g h = sym (read-end s at n so h) ∙ g.same

-- ---- what a check told, for the crates above

pub checked-result : (s : List ℕ) (n : Counts) → checked s ≡ result n → (b : Book) × (read s ≡ result b) × (n.conditions ≡ length b.conditions)
unfolding checked
checked-result s n h = let x = gone-on (read s) _ n h in (x.0, x.1, sym (ap (λ (c : Counts). c.conditions) (result-is x.2)))
