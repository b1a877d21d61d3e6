-- Adding a line: what a line that is fine keeps to, and a policy without a default.
use Prim.Native.Nat.{ℕ}
use mathlib.Core.Bool.{Bool, true}
use mathlib.Core.Option.{none, some}
use mathlib.Core.Path.{◌≡◌, sym, ap, ◌∙◌}
use lib.IntN.{ℤ}
use Rattle.answers.specs.Answers.{result}
use Rattle.peal.specs.declared.Operator.{Operator}
use Rattle.text.specs.Forms.{Form, policy, rule}
use Rattle.text.proofs.FormMentions.{FewMentions}
use Rattle.book.specs.Acceptance.{BookSoFar, in_place, in_count, in_range, is_new, missing_default, default_of, default_in_range, book_with, opens_rules, old_zero_after, accept}
use Rattle.book.specs.Judged.{with_line}
use Rattle.book.specs.SoFar.{Bounded}
use Rattle.book.proofs.RangeLaws.{missing-in-range}
use Rattle.book.proofs.BoundedLaws.{Passed, passed, bounded-after}

-- ---- a line that is fine

module _ (so : BookSoFar) (f : Form) (fine : (n : ℕ) → result (with_line so f) ≡ accept n so f) where
  pub fine-passed : Passed 0 so f
  fine-passed = passed 0 so (with_line so f) f (sym (fine 0))

  -- the book with it is in range
  pub fine-bounded : Bounded so → FewMentions f → Bounded (with_line so f)
  fine-bounded b few = bounded-after so b 0 f fine-passed few

-- a rule leaves the mark that rules may follow, which stands where it is fine
module _ (so : BookSoFar) (s : ℕ) (v : ℤ) (fine : (n : ℕ) → result (with_line so (rule s v)) ≡ accept n so (rule s v)) where
  pub rule-placed : so.in_rules ≡ true
  unfolding in_place
  rule-placed = (fine-passed so (rule s v) fine).place

  pub rule-left : (n : ℕ) → result (record { book = book_with so (rule s v); in_rules = so.in_rules; old_zero = so.old_zero }) ≡ accept n so (rule s v)
  unfolding with_line opens_rules old_zero_after
  rule-left n = ap (λ (x : Bool). result (record { book = book_with so (rule s v); in_rules = x; old_zero = so.old_zero })) rule-placed ∙ fine n

-- a policy that gives no default is taken as one that gives what is meant
pub bare_policy : (n : ℕ) (so : BookSoFar) (o : Operator) → accept n so (policy o (some (missing_default so.old_zero o))) ≡ accept n so (policy o none)
unfolding accept in_place in_count in_range is_new book_with opens_rules old_zero_after default_of default_in_range
bare_policy n so o = rw (missing-in-range so.old_zero o)
