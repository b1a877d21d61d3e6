-- Books from before change request 2: an `o` on top keeps their reading, and without one only a `p min` or a `p mul` alone changes it.
use Prim.Native.Nat.{ℕ, ◌+◌, ◌≤◌}
use mathlib.Core.Bool.{Bool, true, false}
use mathlib.Core.List.{List, [], ◌∷◌, ◌++◌}
use mathlib.Core.Logic.{⊎_elim}
use mathlib.Core.Option.{Option, none, some}
use mathlib.Core.Path.{◌≡◌, refl, sym, ap, ◌∙◌}
use native.Mathlib.Omega.{arith}
use lib.IntN.{ℤ, pos}
use lib.ListN.{length}
use borrow.Author.Tests.{le-leb}
use Rattle.answers.specs.Answers.{Answer, result, refused, on_result, require}
use Rattle.answers.proofs.Results.{no-refusal, result-is, required}
use Rattle.peal.specs.declared.Operator.{Operator}
use Rattle.peal.specs.declared.Operator.TheVariants.{Min, Max, Sum, Mul}
use Rattle.limits.specs.Limits.{book_fits, line_fits, within}
use Rattle.text.specs.Text.{bytes, Line, longer, parted, text_lines}
use Rattle.text.specs.Forms.{Form, old_zero, policy, rule, exclusion, condition, form}
use Rattle.book.specs.Acceptance.{BookSoFar, no_line, in_place, in_count, in_range, is_new, default_in_range, missing_default, default_of, book_with, opens_rules, old_zero_after, accept}
use Rattle.book.specs.Books.{accept_form, read_line, read_lines, read}
use Rattle.book.specs.Judged.{with_line}
use Rattle.book.specs.OldBooks.{read_before, NoLineOf, AllGiven, line_below, bare_line, zero_line, ZerosWritten, OldBooks}
use Rattle.book.specs.Computing.{book_computes}
use Rattle.text.proofs.TextLaws.{line_before}
use Rattle.book.proofs.JudgeLaws.{accept-fine}
use Rattle.book.proofs.BoundedLaws.{passed}
use Rattle.book.proofs.ReadLaws.{read-lines}

-- the book so far, as it was read before
older : BookSoFar → BookSoFar
older so = record { book = so.book; in_rules = so.in_rules; old_zero = true }

-- ---- an `o` on top: every line is one further down

below-require : {A : Type 0} (t : Bool) (k n : ℕ) (a : Answer A) → require t k (n + 1) (line_below a) ≡ line_below (require t k n a)
unfolding line_below
below-require true k n a = refl
below-require false k n a = refl

below_then : {A B : Type 0} (a : Answer A) (f g : A → Answer B) → ((x : A) → g x ≡ line_below (f x)) → on_result (line_below a) g ≡ line_below (on_result a f)
unfolding line_below
below_then (result x) f g h = h x
below_then (refused k v) f g h = refl

-- the place of any line but an `o` does not depend on its number
same_place : (n : ℕ) (so : BookSoFar) (f : Form) → (f ≡ old_zero → ⊥) → in_place (n + 1) so f ≡ in_place n so f
unfolding in_place
same_place n so old_zero h = absurd (h refl)
same_place n so (policy o d) h = refl
same_place n so (rule s v) h = refl
same_place n so (exclusion a b) h = refl
same_place n so (condition c t e) h = refl

below-accept : (n : ℕ) (so : BookSoFar) (f : Form) → (f ≡ old_zero → ⊥) → accept (n + 1) so f ≡ line_below (accept n so f)
unfolding accept line_below
below-accept n so f h =
    rw (same_place n so f h)
    (ap (require (in_place n so f) 3 (n + 1))
    (ap (require (in_count so f) 4 (n + 1))
    (ap (require (in_range so f) 5 (n + 1)) (below-require (is_new so f) 6 n _) ∙ below-require (in_range so f) 5 n _) ∙ below-require (in_count so f) 4 n _)
    ∙ below-require (in_place n so f) 3 n _)

below-form : (n : ℕ) (so : BookSoFar) (o : Option Form) → (o ≡ some old_zero → ⊥) → accept_form (n + 1) so o ≡ line_below (accept_form n so o)
unfolding accept_form line_below
below-form n so none h = refl
below-form n so (some f) h = below-accept n so f (λ e. h (ap some e))

below-line : (n : ℕ) (so : BookSoFar) (l : Line) → (form l.text ≡ some old_zero → ⊥) → read_line (n + 1) so l ≡ line_below (read_line n so l)
unfolding read_line
below-line n so l h =
    ap (require (line_fits (length l.text)) 1 (n + 1)) (ap (require l.ended 2 (n + 1)) (below-form n so (form l.text) h) ∙ below-require l.ended 2 n _)
    ∙ below-require (line_fits (length l.text)) 1 n _

below-lines : (n : ℕ) (so : BookSoFar) (ls : List Line) → NoLineOf old_zero ls → read_lines (n + 1) so ls ≡ line_below (read_lines n so ls)
unfolding read_lines line_below
below-lines n so [] h = refl
below-lines n so (l ∷ ls) h =
    ap (λ (a : Answer BookSoFar). on_result a (λ next. read_lines (n + 1 + 1) next ls)) (below-line n so l h.0)
    ∙ below_then (read_line n so l) (λ next. read_lines (n + 1) next ls) (λ next. read_lines (n + 1 + 1) next ls) (λ next. below-lines (n + 1) next ls h.1)

-- the lines of a book with an `o` on top
top-lines : (s : List ℕ) → text_lines (bytes "o\n" ++ s) ≡ record { text = bytes "o"; ended = true } ∷ text_lines s
unfolding text_lines parted longer
top-lines s = line_before (bytes "o") s

-- the `o` leaves the old zero
top_read : (ls : List Line) → read_lines 1 no_line (record { text = bytes "o"; ended = true } ∷ ls) ≡ read_lines 2 (older no_line) ls
unfolding book_computes older
top_read ls = refl

marked : (s : List ℕ) → NoLineOf old_zero (text_lines s) → length s + 2 ≤ 8192 → read (bytes "o\n" ++ s) ≡ line_below (read_before s)
unfolding read_before older no_line
marked s h room =
    sym (read-lines (bytes "o\n" ++ s) (le-leb (length (bytes "o\n" ++ s)) 8192 (omega arith)))
    ∙ ap (read_lines 1 no_line) (top-lines s)
    ∙ top_read (text_lines s)
    ∙ below-lines 1 (older no_line) (text_lines s) h
    ∙ rw (le-leb (length s) 8192 (omega arith))

-- ---- no default of min or mul left out: what it would mean makes no difference

-- a default that is given, or of max or sum
same-default : (old : Bool) (o : Operator) (d : Option ℤ) → (policy o d ≡ policy Min none → ⊥) → (policy o d ≡ policy Mul none → ⊥) → default_of true o d ≡ default_of old o d
unfolding default_of missing_default
same-default old o (some d) f g = refl
same-default old Min none f g = absurd (f refl)
same-default old Mul none f g = absurd (g refl)
same-default true Max none f g = refl
same-default false Max none f g = refl
same-default true Sum none f g = refl
same-default false Sum none f g = refl

then-require : {A B : Type 0} (t : Bool) (k v : ℕ) (a : Answer A) (f : A → Answer B) → require t k v (on_result a f) ≡ on_result (require t k v a) f
then-require true k v a f = refl
then-require false k v a f = refl

-- what is gone on to after the four tests
older-tests : (n : ℕ) (so : BookSoFar) (f : Form)
    → require (in_place n so f) 3 n (require (in_count so f) 4 n (require (in_range so f) 5 n (require (is_new so f) 6 n (result (older (with_line so f))))))
    ≡ on_result (accept n so f) (λ next. result (older next))
unfolding accept with_line
older-tests n so f =
    ap (require (in_place n so f) 3 n)
    (ap (require (in_count so f) 4 n)
    (ap (require (in_range so f) 5 n) (then-require (is_new so f) 6 n _ _) ∙ then-require (in_range so f) 5 n _ _) ∙ then-require (in_count so f) 4 n _ _)
    ∙ then-require (in_place n so f) 3 n _ _

older-accept : (n : ℕ) (so : BookSoFar) (f : Form) → (f ≡ policy Min none → ⊥) → (f ≡ policy Mul none → ⊥)
    → accept n (older so) f ≡ on_result (accept n so f) (λ next. result (older next))
unfolding accept with_line in_place in_count in_range is_new book_with opens_rules old_zero_after older
older-accept n so old_zero p q = older-tests n so old_zero
older-accept n so (policy o d) p q = rw (same-default so.old_zero o d p q) (older-tests n so (policy o d))
older-accept n so (rule s v) p q = older-tests n so (rule s v)
older-accept n so (exclusion a b) p q = older-tests n so (exclusion a b)
older-accept n so (condition c t e) p q = older-tests n so (condition c t e)

older-form : (n : ℕ) (so : BookSoFar) (o : Option Form) → (o ≡ some (policy Min none) → ⊥) → (o ≡ some (policy Mul none) → ⊥)
    → accept_form n (older so) o ≡ on_result (accept_form n so o) (λ next. result (older next))
unfolding accept_form
older-form n so none p q = refl
older-form n so (some f) p q = older-accept n so f (λ e. p (ap some e)) (λ e. q (ap some e))

older-line : (n : ℕ) (so : BookSoFar) (l : Line) → (form l.text ≡ some (policy Min none) → ⊥) → (form l.text ≡ some (policy Mul none) → ⊥)
    → read_line n (older so) l ≡ on_result (read_line n so l) (λ next. result (older next))
unfolding read_line
older-line n so l p q =
    ap (require (line_fits (length l.text)) 1 n) (ap (require l.ended 2 n) (older-form n so (form l.text) p q) ∙ then-require l.ended 2 n _ _)
    ∙ then-require (line_fits (length l.text)) 1 n _ _

-- two steps, of which the first only renames
then_same : {A B C : Type 0} (a : Answer A) (f : A → B) (g : B → Answer C) (h : A → Answer C) → ((x : A) → g (f x) ≡ h x) → on_result (on_result a (λ x. result (f x))) g ≡ on_result a h
then_same (result x) f g h e = e x
then_same (refused k v) f g h e = refl

older-lines : (n : ℕ) (so : BookSoFar) (ls : List Line) → NoLineOf (policy Min none) ls → NoLineOf (policy Mul none) ls
    → read_lines n (older so) ls ≡ read_lines n so ls
unfolding read_lines older
older-lines n so [] p q = refl
older-lines n so (l ∷ ls) p q =
    ap (λ (a : Answer BookSoFar). on_result a (λ next. read_lines (n + 1) next ls)) (older-line n so l p.0 q.0)
    ∙ then_same (read_line n so l) older (λ next. read_lines (n + 1) next ls) (λ next. read_lines (n + 1) next ls) (λ next. older-lines (n + 1) next ls p.1 q.1)

unchanged : (s : List ℕ) → AllGiven (text_lines s) → read s ≡ read_before s
unfolding read read_before older no_line
unchanged s g = ap (require (book_fits (length s)) 1 0) (sym (older-lines 1 no_line (text_lines s) g.0 g.1))

-- ---- the 0 of a missing default written

-- on a book so far that is read as before
module _ (n : ℕ) (so : BookSoFar) (old : so.old_zero ≡ true) where
  zero-accept : (o : Operator) → accept n so (policy o (some (pos 0))) ≡ accept n so (policy o none)
  unfolding accept in_place in_count in_range is_new book_with opens_rules old_zero_after missing_default default_of default_in_range within
  zero-accept o = rw old

  zero-line : (o : Operator) → read_line n so (zero_line o) ≡ read_line n so (bare_line o)
  unfolding book_computes
  zero-line Min = zero-accept Min
  zero-line Max = zero-accept Max
  zero-line Sum = zero-accept Sum
  zero-line Mul = zero-accept Mul

  old-after : (f : Form) → (with_line so f).old_zero ≡ true
  unfolding with_line old_zero_after
  old-after old_zero = refl
  old-after (policy o d) = old
  old-after (rule s v) = old
  old-after (exclusion a b) = old
  old-after (condition c t e) = old

  accept-old : (f : Form) (next : BookSoFar) → accept n so f ≡ result next → next.old_zero ≡ true
  accept-old f next h =
      let p = passed n so next f h in
      sym (ap (λ (x : BookSoFar). x.old_zero) (result-is (accept-fine n so f p.place p.count p.range p.new ∙ h))) ∙ old-after f

  form-old : (o : Option Form) (next : BookSoFar) → accept_form n so o ≡ result next → next.old_zero ≡ true
  unfolding accept_form
  form-old none next h = no-refusal (sym h)
  form-old (some f) next h = accept-old f next h

  line-old : (l : Line) (next : BookSoFar) → read_line n so l ≡ result next → next.old_zero ≡ true
  unfolding read_line
  line-old l next h =
      let short = required (line_fits (length l.text)) 1 n _ next h in
      form-old (form l.text) next (required l.ended 2 n _ next short.1).1

then-alike : {A B : Type 0} (a : Answer A) (f g : A → Answer B) → ((x : A) → a ≡ result x → f x ≡ g x) → on_result a f ≡ on_result a g
then-alike (result x) f g h = h x refl
then-alike (refused k v) f g h = refl

zero-lines : (n : ℕ) (so : BookSoFar) (ls ms : List Line) → so.old_zero ≡ true → ZerosWritten ls ms → read_lines n so ms ≡ read_lines n so ls
unfolding read_lines
zero-lines n so [] [] old w = refl
zero-lines n so [] (m ∷ ms) old w = absurd w
zero-lines n so (l ∷ ls) [] old w = absurd w
zero-lines n so (l ∷ ls) (m ∷ ms) old w =
    ap (λ (a : Answer BookSoFar). on_result a (λ next. read_lines (n + 1) next ms))
    (⊎_elim (λ e. ap (read_line n so) e) (λ (o, b, z). ap (read_line n so) z ∙ zero-line n so old o ∙ sym (ap (read_line n so) b)) w.0)
    ∙ then-alike (read_line n so l) (λ next. read_lines (n + 1) next ms) (λ next. read_lines (n + 1) next ls) (λ next e. zero-lines (n + 1) next ls ms (line-old n so old l next e) w.1)

written : (s t : List ℕ) → ZerosWritten (text_lines s) (text_lines t) → AllGiven (text_lines t)
    → length s ≤ 8192 → length t ≤ 8192 → read t ≡ read_before s
unfolding read_before
written s t w g a b = unchanged t g ∙ rw (le-leb (length s) 8192 a, le-leb (length t) 8192 b) (zero-lines 1 _ (text_lines s) (text_lines t) refl w)

pub old-books : OldBooks
old-books = record { unchanged = unchanged; marked = marked; written = written }
