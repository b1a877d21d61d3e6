-- An accepted line keeps the book so far within bounds, so every book that is read is in range.
use Prim.Native.Nat.{ℕ, ◌+◌, ◌-◌, ◌<◌}
use mathlib.Core.Bool.{true}
use mathlib.Core.List.{List, [], ◌∷◌}
use mathlib.Core.Option.{Option, none, some}
use mathlib.Core.Path.{◌≡◌, refl, sym, subst, ◌∙◌}
use native.Mathlib.Omega.{arith}
use lib.Dec.{leb}
use lib.IntN.{ℤ}
use lib.ListN.{length, length-append, length-set}
use borrow.Author.Tests.{leb-true, ltb-true, eqb-true, not-true}
use Rattle.answers.specs.Answers.{result}
use Rattle.answers.proofs.Results.{no-refusal, result-is, required, gone-on}
use Rattle.arith.proofs.Options.{Finds}
use Rattle.arith.proofs.Tests.{and_left, and_right, clash}
use Rattle.peal.specs.Policies.{Policy, Condition, Book}
use Rattle.peal.specs.declared.Operator.{Operator}
use Rattle.text.specs.Text.{Line, text_lines}
use Rattle.text.specs.Forms.{Form, old_zero, policy, rule, exclusion, condition, form}
use Rattle.book.specs.Acceptance.{BookSoFar, no_line, empty_book, last_policy, in_place, in_count, score_in_range, in_range, is_new, default_of, no_rules, with_rule, with_policies, with_policy, with_last, book_with, opens_rules, accept}
use Rattle.book.specs.Books.{accept_form, read_line, read_lines, read}
use Rattle.book.specs.Ranges.{PolicyInRange, BookInRange}
use Rattle.book.specs.Judged.{with_line}
use Rattle.book.specs.SoFar.{Bounded}
use Rattle.text.proofs.FormMentions.{FewMentions, form-mentions}
use Rattle.book.proofs.JudgeLaws.{accept-fine}
use Rattle.book.proofs.RangeLaws.{new-in-range, rule-added, condition-in-range, last-in-range, policy-added, last-changed, exclusion-added, condition-added}

-- ---- what an accepted line has passed

pub record Passed (n : ℕ) (so : BookSoFar) (f : Form) : Type 0 where
  pub place : in_place n so f ≡ true
  pub count : in_count so f ≡ true
  pub range : in_range so f ≡ true
  pub new : is_new so f ≡ true

pub passed : (n : ℕ) (so next : BookSoFar) (f : Form) → accept n so f ≡ result next → Passed n so f
unfolding accept
passed n so next f h =
    let a = required (in_place n so f) 3 n _ next h in
    let b = required (in_count so f) 4 n _ next a.1 in
    let c = required (in_range so f) 5 n _ next b.1 in
    let d = required (is_new so f) 6 n _ next c.1 in
    record { place = a.0; count = b.0; range = c.0; new = d.0 }

-- ---- the book so far

pub bounded-start : Bounded no_line
unfolding no_line empty_book
bounded-start = record { range = record { policies_room = omega arith; exclusions_room = omega arith; conditions_room = omega arith; policies = tt; exclusions = tt; conditions = tt }; some = λ h. clash h refl }

-- the last policy with one rule more
abbrev pub changed : BookSoFar → ℕ → ℤ → Policy
changed so s v = with_rule (last_policy so.book) (record { signal = s; score = v })

module _ (so : BookSoFar) (b : Bounded so) where
  module _ (n s : ℕ) (v : ℤ) (p : Passed n so (rule s v)) where
    rule-some : 0 < length so.book.policies
    unfolding in_place
    rule-some = b.some p.place

    pub changed-in-range : PolicyInRange (changed so s v)
    unfolding in_count in_range is_new
    changed-in-range =
        let o : Operator = (last_policy so.book).operator in
        rule-added (last_policy so.book) (last-in-range so.book b.range rule-some) (record { signal = s; score = v }) p.count
        (omega (arith, leb-true s 15 (and_left (leb s 15) (score_in_range o v) p.range)))
        (and_right (leb s 15) (score_in_range o v) p.range)
        (not-true _ p.new)

  pub bounded-after : (n : ℕ) (f : Form) → Passed n so f → FewMentions f → Bounded (with_line so f)
  unfolding with_line book_with opens_rules in_place in_count in_range with_policies with_policy with_last
  bounded-after n old_zero p few = record { range = b.range; some = λ h. clash h refl }
  bounded-after n (policy o d) p few =
      let q : Policy = no_rules o (default_of so.old_zero o d) in
      let empty = eqb-true (length so.book.conditions) 0 p.place in
      let room = ltb-true (length so.book.policies) 16 p.count in
      record { range = policy-added so.book b.range q empty room (new-in-range so.old_zero o d p.range); some = λ _. omega (arith, length-append so.book.policies (q ∷ [])) }
  bounded-after n (rule s v) p few =
      let same = length-set so.book.policies (length so.book.policies - 1) (changed so s v) in
      record { range = last-changed so.book b.range (changed so s v) (changed-in-range n s v p); some = λ _. omega (arith, rule-some n s v p) }
  bounded-after n (exclusion a c) p few =
      let room = ltb-true (length so.book.exclusions) 16 p.count in
      record { range = exclusion-added so.book b.range (record { first = a; second = c }) room p.range; some = λ h. clash h refl }
  bounded-after n (condition c t e) p few =
      let k : Condition = record { sense = c; threshold = t; expression = e } in
      let room = ltb-true (length so.book.conditions) 8 p.count in
      record { range = condition-added so.book b.range k room (condition-in-range (length so.book.policies) k p.range few); some = λ h. clash h refl }

accept-bounded : (n : ℕ) (so next : BookSoFar) (f : Form) → Bounded so → FewMentions f → accept n so f ≡ result next → Bounded next
accept-bounded n so next f b few h =
    let p = passed n so next f h in
    subst Bounded (result-is (accept-fine n so f p.place p.count p.range p.new ∙ h)) (bounded-after so b n f p few)

-- ---- the lines from the top

form-bounded : (n : ℕ) (so next : BookSoFar) (o : Option Form) → Bounded so → Finds FewMentions o → accept_form n so o ≡ result next → Bounded next
unfolding accept_form
form-bounded n so next none b few h = no-refusal (sym h)
form-bounded n so next (some f) b few h = accept-bounded n so next f b few h

pub line-bounded : (n : ℕ) (so next : BookSoFar) (l : Line) → Bounded so → read_line n so l ≡ result next → Bounded next
unfolding read_line
line-bounded n so next l b h =
    let short = required (leb (length l.text) 128) 1 n _ next h in
    form-bounded n so next (form l.text) b (form-mentions l.text (leb-true (length l.text) 128 short.0)) (required l.ended 2 n _ next short.1).1

lines-in-range : (n : ℕ) (so : BookSoFar) (ls : List Line) (b : Book) → Bounded so → read_lines n so ls ≡ result b → BookInRange b
unfolding read_lines
lines-in-range n so [] b k h = subst BookInRange (result-is h) k.range
lines-in-range n so (l ∷ ls) b k h =
    let x = gone-on (read_line n so l) (λ next. read_lines (n + 1) next ls) b h in
    lines-in-range (n + 1) x.0 ls b (line-bounded n so x.0 l k x.1) x.2

pub read-in-range : (bytes : List ℕ) (b : Book) → read bytes ≡ result b → BookInRange b
unfolding read
read-in-range bytes b h = lines-in-range 1 no_line (text_lines bytes) b bounded-start (required (leb (length bytes) 8192) 1 0 _ b h).1
