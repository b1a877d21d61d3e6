-- Laws of accepting a line: one that passes the tests 3 to 6 or fails one, and what the code's own tests say of them.
use Prim.Native.Nat.{ℕ, ◌≤◌, ◌<◌}
use mathlib.Core.Bool.{Bool, true, false, ◌&&◌, ◌||◌}
use mathlib.Core.List.{List, [], ◌∷◌}
use mathlib.Core.Path.{◌≡◌, refl, sym, ap, ap₂, ◌∙◌}
use native.Mathlib.Omega.{arith}
use lib.Dec.{eqb}
use lib.ListN.{length}
use borrow.Author.Tests.{eq-eqb, ne_eqb}
use Rattle.answers.specs.Answers.{result, refused}
use Rattle.arith.specs.Lists.{exists, every}
use Rattle.std.specs.List.{list_any, list_all}
use Rattle.arith.proofs.EveryExists.{exists-map, exists-either}
use Rattle.signals.specs.Sets.{present}
use Rattle.signals.proofs.SetOfLaws.{present-set}
use Rattle.peal.specs.Policies.{Rule, Policy, Exclusion, mask_of}
use Rattle.text.specs.Forms.{Form, exclusion}
use Rattle.book.specs.Acceptance.{BookSoFar, no_condition, in_place, in_count, mentions_below, in_range, excludes, is_new, accept}
use Rattle.book.specs.Ranges.{signals_of, PolicyInRange}
use Rattle.book.specs.Judged.{with_line, code_below}
use Rattle.text.specs.Codes.{expression_of, AreCodes}
use Rattle.text.specs.declared.expressions.Code.{Code}
use Rattle.book.proofs.MentionedPolicies.{codes-below}

pub accept-fine : (n : ℕ) (so : BookSoFar) (f : Form) → in_place n so f ≡ true → in_count so f ≡ true → in_range so f ≡ true → is_new so f ≡ true → result (with_line so f) ≡ accept n so f
unfolding accept with_line
accept-fine n so f a b c d = rw (a, b, c, d)

-- the last test fails
pub accept-6 : (n : ℕ) (so : BookSoFar) (f : Form) → in_place n so f ≡ true → in_count so f ≡ true → in_range so f ≡ true → is_new so f ≡ false → refused 6 n ≡ accept n so f
unfolding accept
accept-6 n so f a b c d = rw (a, b, c, d)

-- ---- before the first condition, and an exclusion after it

module _ (so : BookSoFar) (a : ℕ) (e : a ≡ length so.book.conditions) where
  no-condition : a ≤ 0 → no_condition so ≡ true
  no-condition h = eq-eqb (length so.book.conditions) 0 (omega arith)

  some-condition : 0 < a → no_condition so ≡ false
  some-condition h = ne_eqb (length so.book.conditions) 0 (λ q. omega arith)

pub exclusion-misplaced : (so : BookSoFar) (a b n k : ℕ) → k ≡ length so.book.conditions → 0 < k → in_place n so (exclusion a b) ≡ false
unfolding in_place
exclusion-misplaced so a b n k e h = some-condition so k e h

-- ---- the code's tests: of every code and of some exclusion, in the words of the library, and of a set

every-all : {A : Type 0} (test : A → Bool) (xs : List A) → list_all test xs ≡ every test xs
every-all test [] = refl
every-all test (x ∷ xs) = rw (every-all test xs)

pub mentions_all : (codes : List (Code ℕ)) (n : ℕ) → AreCodes codes → list_all (code_below n) codes ≡ mentions_below n (expression_of codes)
mentions_all codes n h = every-all (code_below n) codes ∙ ap (every (code_below n)) h ∙ codes-below n (expression_of codes)

exists-any : {A : Type 0} (test : A → Bool) (xs : List A) → list_any test xs ≡ exists test xs
exists-any test [] = refl
exists-any test (x ∷ xs) = rw (exists-any test xs)

-- the pair as it stands, or turned over
pub either-order : (a b : ℕ) (xs : List Exclusion) {t u : Bool}
    → t ≡ list_any (λ (x : Exclusion). eqb x.first a && eqb x.second b) xs → u ≡ list_any (λ (x : Exclusion). eqb x.first b && eqb x.second a) xs
    → (t || u) ≡ exists (excludes a b) xs
unfolding excludes
either-order a b xs t-is u-is =
    ap₂ ◌||◌ (t-is ∙ exists-any _ xs) (u-is ∙ exists-any _ xs)
    ∙ sym (exists-either (excludes a b) (λ (x : Exclusion). eqb x.first a && eqb x.second b) (λ (x : Exclusion). eqb x.first b && eqb x.second a) (λ x. refl) xs)

-- the signal is among the rules where it is in the set of their signals
pub present_signal : (p : Policy) (s : ℕ) → PolicyInRange p → present (mask_of p.rules) s ≡ exists (λ (r : Rule). eqb r.signal s) p.rules
unfolding mask_of
present_signal p s h = present-set (signals_of p.rules) h.distinct s ∙ exists-map (λ (r : Rule). r.signal) (λ y. eqb y s) p.rules
