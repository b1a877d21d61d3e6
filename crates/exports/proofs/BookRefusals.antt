-- The refusals of the calls on books: a book has at most 8,193 lines, since it has at most 8,192 bytes.
use Prim.Native.Nat.{ℕ, zero, suc, ◌+◌, ◌≤◌}
use mathlib.Core.Bool.{Bool, true, false, cond}
use mathlib.Core.List.{List, [], ◌∷◌}
use mathlib.Core.Option.{Option, none, some}
use native.Mathlib.Omega.{arith}
use lib.Dec.{eqb, leb}
use lib.ListN.{length}
use borrow.Author.Tests.{leb-true}
use Rattle.layout.specs.Records.{words}
use Rattle.peal.specs.Policies.{Condition}
use Rattle.translation.specs.Translation.{listing_records}
use Rattle.text.specs.Text.{Line, longer, parted, as_lines, text_lines}
use Rattle.text.specs.Forms.{Form, form}
use Rattle.book.specs.Acceptance.{BookSoFar, no_line, in_place, in_count, in_range, is_new, accept}
use Rattle.book.specs.Books.{accept_form, read_line, read_lines, read, checked, condition_at, asked}
use Rattle.score.specs.Decisions.{scored_answer}
use Rattle.score.specs.Shown.{shown_answer}
use Rattle.compiler.specs.Compiling.{fitting, compiled, returned}
use Rattle.exports.proofs.Refusals.{Refuses, never, by, tried, on-result}

-- ---- a line, and lines from line n on

accepting : (most n : ℕ) (so : BookSoFar) (f : Form) → n ≤ most → Refuses 1 8 most (accept n so f)
unfolding accept
accepting most n so f h =
    tried (in_place n so f) (omega arith)
    (λ _. tried (in_count so f) (omega arith) (λ _. tried (in_range so f) (omega arith) (λ _. tried (is_new so f) (omega arith) (λ _. never _))))

by_form : (most n : ℕ) (so : BookSoFar) (o : Option Form) → n ≤ most → Refuses 1 8 most (accept_form n so o)
unfolding accept_form
by_form most n so none h = by 2 n (omega arith)
by_form most n so (some f) h = accepting most n so f h

by-line : (most n : ℕ) (so : BookSoFar) (l : Line) → n ≤ most → Refuses 1 8 most (read_line n so l)
unfolding read_line
by-line most n so l h =
    tried (leb (length l.text) 128) (omega arith) (λ _. tried l.ended (omega arith) (λ _. by_form most n so (form l.text) h))

by_lines : (most n : ℕ) (so : BookSoFar) (ls : List Line) → n + length ls ≤ most + 1 → Refuses 1 8 most (read_lines n so ls)
unfolding read_lines
by_lines most n so [] h = never _
by_lines most n so (l ∷ ls) h = on-result (by-line most n so l (omega arith)) (λ next. by_lines most (n + 1) next ls (omega arith))

-- ---- how many lines there are

longer-length : (b : ℕ) (ps : List (List ℕ)) → length (longer b ps) ≤ length ps + 1
unfolding longer
longer-length b [] = omega arith
longer-length b (p ∷ ps) = omega arith

pieces-length : (x : ℕ) (s : List ℕ) → length (parted x s) ≤ length s + 1
unfolding parted
pieces-length x [] = omega arith
pieces-length x (b ∷ s) = go (eqb b x) (parted x s) (pieces-length x s)
  where
    go : (t : Bool) (ps : List (List ℕ)) → length ps ≤ length s + 1 → length (cond t ([] ∷ ps) (longer b ps)) ≤ length (b ∷ s) + 1
    go true ps h = omega arith
    go false ps h = omega (arith, longer-length b ps)

lines-length : (ps : List (List ℕ)) → length (as_lines ps) ≤ length ps
unfolding as_lines
lines-length [] = omega arith
lines-length ([] ∷ []) = omega arith
lines-length ((b ∷ s) ∷ []) = omega arith
lines-length (p ∷ q ∷ ps) = omega (arith, lines-length (q ∷ ps))

-- ---- the calls

reading : (bytes : List ℕ) → Refuses 1 8 8193 (read bytes)
unfolding read text_lines
reading bytes =
    tried (leb (length bytes) 8192) (omega arith)
    (λ t. by_lines 8193 1 no_line (text_lines bytes) (omega (arith, leb-true (length bytes) 8192 t, lines-length (parted 10 bytes), pieces-length 10 bytes)))

pub checking : (bytes : List ℕ) → Refuses 1 8 8193 (checked bytes)
unfolding checked
checking bytes = on-result (reading bytes) (λ b. never _)

condition-in : (cs : List Condition) (n : ℕ) → Refuses 1 8 8193 (condition_at cs n)
unfolding condition_at
condition-in [] n = by 7 0 (omega arith)
condition-in (c ∷ cs) zero = never c
condition-in (c ∷ cs) (suc n) = condition-in cs n

module _ (bytes : List ℕ) (n : ℕ) where
  asking : Refuses 1 8 8193 (asked bytes n)
  unfolding asked
  asking = on-result (reading bytes) (λ b. on-result (condition-in b.conditions n) (λ c. never _))

  pub deciding : (set : ℕ) → Refuses 1 8 8193 (scored_answer bytes n set)
  unfolding scored_answer
  deciding set = on-result asking (λ x. never _)

  pub scoring : (set : ℕ) → Refuses 1 8 8193 (shown_answer bytes n set)
  unfolding shown_answer
  scoring set = on-result asking (λ x. never _)

  pub compiling : (lent : ℕ) → Refuses 1 8 8193 (returned (compiled bytes n lent))
  unfolding compiled returned fitting
  compiling lent = on-result (on-result asking (λ (b, c). tried (leb (length (words (listing_records b c))) lent) (omega arith) (λ _. never _))) (λ rs. never _)
