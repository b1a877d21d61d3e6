-- The number that a call returns tells its whole answer.
use Prim.Native.Nat.{ℕ, ◌+◌, ◌-◌, ◌*◌, ◌/◌, ◌%◌, ◌≤◌, ◌<◌}
use mathlib.Core.Bool.{Bool, true, false, cond}
use mathlib.Core.List.{List}
use mathlib.Core.Path.{◌≡◌, refl, ap, subst, ◌∙◌}
use native.Mathlib.Omega.{arith}
use lib.Dec.{eqb}
use lib.IntN.{pos, nat_abs, ◌+ℤ◌, ◌-ℤ◌}
use lib.ListN.{length}
use borrow.Author.Tests.{le-leb, lt-leb, ne_eqb}
use Rattle.std.proofs.lemmas.Int.{ints}
use Rattle.answers.specs.Answers.{Answer, result, refused}
use Rattle.layout.specs.Records.{one_if}
use Rattle.rod.specs.Reading.{rod_answer}
use Rattle.rod.specs.Traversing.{traversed, answer_count}
use Rattle.checks.specs.Checks.{Choice, always, never, both, Chosen, chosen, Comparison, alike, differ, declined, first, second, comparison}
use Rattle.book.specs.Books.{Counts, checked}
use Rattle.score.specs.Decisions.{scored_answer}
use Rattle.score.specs.Shown.{shown_answer}
use Rattle.score.specs.declared.exact.Exact.{Exact}
use Rattle.compiler.specs.Compiling.{compiled, returned}
use Rattle.exports.specs.Packing.{from_bit5, from_bit16, from_bit32, from_bit48, value_end, below_zero, as_one, of_second, packed, counts_value, score_value, remainder_after, itself, answers_value, choice_value, chosen_value, packed_comparison}
use Rattle.exports.specs.Unpacking.{code_in, value_in, of_first, number_of, unpacked, counts_in, yes_in, score_in, choice_in, chosen_in, which_of, difference_in, comparison_in}
use Rattle.exports.specs.NothingLost.{NothingLost}
use Rattle.exports.proofs.Refusals.{Refuses, in_table}
use Rattle.exports.proofs.BookRefusals.{checking, deciding, scoring, compiling}
use Rattle.exports.proofs.ListingRefusals.{rod-reading, traversing, choosing, Declines, comparing}
use Rattle.exports.proofs.Results.{counts-small, hundredths-bounded, answers-counted, NamesSets, ChosenFits, chosen-fits}

-- ---- the parts of a number

module _ (code v : ℕ) (h : code < from_bit5) where
  code-in : code_in (as_one code v) ≡ code
  unfolding code_in
  code-in = omega arith

  value-in : value_in (as_one code v) ≡ v
  unfolding value_in
  value-in = omega arith

  answer-in : {A : Type 0} (result_in : ℕ → A)
      → unpacked result_in (as_one code v) ≡ cond (eqb code 0) (result (result_in v)) (refused (number_of code) v)
  unfolding unpacked
  answer-in result_in = rw (code-in, value-in) refl

  comparison-in : comparison_in (as_one code v)
      ≡ cond (eqb code 0) (difference_in v) (declined (which_of (of_first code)) (number_of code) v)
  unfolding comparison_in
  comparison-in = rw (code-in, value-in) refl

-- which listing a code is of, and its number
first_code : (code : ℕ) → code ≤ 20 → (of_first code ≡ true) × (number_of code ≡ code)
unfolding number_of of_first
first_code code h = let t = le-leb code 20 h in (t, rw t refl)

second-code : (number : ℕ) → 4 < number → (of_first (of_second number) ≡ false) × (number_of (of_second number) ≡ number)
unfolding number_of of_first
second-code number h = let t = lt-leb (of_second number) 20 (omega arith) in (t, rw t (omega arith))

-- ---- an answer

module _ {A : Type 0} (value_of : A → ℕ) (result_in : ℕ → A) {from to most : ℕ} (low : 0 < from) (high : to ≤ 20) where
  told-again : (a : Answer A) → Refuses from to most a → ((x : A) → result x ≡ a → result_in (value_of x) ≡ x)
      → unpacked result_in (packed value_of a) ≡ a
  unfolding packed
  told-again (result x) h g = answer-in 0 (value_of x) (omega arith) result_in ∙ ap result (g x refl)
  told-again (refused n v) h g =
      let i = in_table h refl in
      answer-in n v (omega arith) result_in ∙ rw (ne_eqb n 0 (omega arith), (first_code n (omega arith)).1) refl

counts-again : (n : Counts) → n.policies ≤ 16 → counts_in (counts_value n) ≡ n
unfolding counts_in counts_value
counts-again n h =
    let p : (n.policies + from_bit16 * n.conditions) % from_bit16 ≡ n.policies = omega arith in
    let c : (n.policies + from_bit16 * n.conditions) / from_bit16 ≡ n.conditions = omega arith in
    rw (p, c) refl

yes-again : (b : Bool) → yes_in (one_if b) ≡ b
unfolding yes_in one_if
yes-again true = refl
yes-again false = refl

-- the hundredths from their value, and the remainder from the lent number
score-again : (bytes : List ℕ) (number set lent : ℕ) (x : Exact) → result x ≡ shown_answer bytes number set
    → score_in (remainder_after lent (shown_answer bytes number set)) (score_value x) ≡ x
unfolding score_in score_value remainder_after
score-again bytes number set lent x e =
    let back : pos (nat_abs (x.hundredths +ℤ below_zero)) -ℤ below_zero ≡ x.hundredths = omega (arith, ints, hundredths-bounded bytes number set x e) in
    subst (λ (a : Answer Exact). score_in (remainder_after lent a) (score_value x) ≡ x) e (rw back refl)

-- as many answers as sets, fewer than 2 to the 59
answers-again : (words sets lent : List ℕ) → length sets < value_end → (n : ℕ) → result n ≡ answer_count (traversed words sets lent)
    → itself (answers_value n) ≡ n
unfolding answers_value
answers-again words sets lent few n e = omega (arith, answers-counted words sets lent n e)

choice-again : (c : Choice) → NamesSets c → choice_in (choice_value c) ≡ c
unfolding choice_in choice_value
choice-again always h = refl
choice-again never h = refl
choice-again (both y n) h =
    let v : ℕ = 2 + from_bit16 * y + from_bit32 * n in
    let yes-set : v % from_bit32 / from_bit16 ≡ y = omega (arith, h.0) in
    let no-set : v / from_bit32 ≡ n = omega (arith, h.0) in
    rw (ne_eqb v 0 (omega arith), ne_eqb v 1 (omega arith), yes-set, no-set) refl

-- the value of the choice ends below bit 48
choice-ends : (c : Choice) → NamesSets c → choice_value c < from_bit48
unfolding choice_value
choice-ends always h = omega arith
choice-ends never h = omega arith
choice-ends (both y n) h = omega (arith, h.0, h.1)

chosen-again : (c : Chosen) → ChosenFits c → chosen_in (chosen_value c) ≡ c
unfolding chosen_in chosen_value
chosen-again c h =
    let less = choice-ends c.choice h.sets in
    let low : (choice_value c.choice + from_bit48 * (c.judged - 1)) % from_bit48 ≡ choice_value c.choice = omega (arith, less) in
    let high : (choice_value c.choice + from_bit48 * (c.judged - 1)) / from_bit48 + 1 ≡ c.judged = omega (arith, less, h.some) in
    rw (low, high, choice-again c.choice h.sets) refl

-- ---- the comparison

difference-in : (k set : ℕ) → 0 < k → k < from_bit16 → difference_in (k + from_bit16 * set) ≡ differ set (which_of (eqb k 3))
unfolding difference_in
difference-in k set low high =
    let which : (k + from_bit16 * set) % from_bit16 ≡ k = omega arith in
    let lowest : (k + from_bit16 * set) / from_bit16 ≡ set = omega arith in
    rw (ne_eqb (k + from_bit16 * set) 0 (omega arith), which, lowest) refl

module _ (one two : ℕ) where
  compared-again : (c : Comparison) → Declines one two c → comparison_in (packed_comparison c) ≡ c
  unfolding packed_comparison difference_in which_of
  compared-again alike h = comparison-in 0 0 (omega arith)
  compared-again (differ set first) h = comparison-in 0 (3 + from_bit16 * set) (omega arith) ∙ difference-in 3 set (omega arith) (omega arith)
  compared-again (differ set second) h = comparison-in 0 (1 + from_bit16 * set) (omega arith) ∙ difference-in 1 set (omega arith) (omega arith)
  compared-again (declined first n v) h =
      let (which, number) = first_code n (omega arith) in
      comparison-in n v (omega arith) ∙ rw (ne_eqb n 0 (omega arith), which, number) refl
  compared-again (declined second n v) h =
      let (which, number) = second-code n (omega arith) in
      comparison-in (of_second n) v (omega arith) ∙ rw (ne_eqb (of_second n) 0 (omega arith), which, number) refl

-- ---- every call

pub nothing-lost : NothingLost
nothing-lost =
    record {
      check = λ book. told-again counts_value counts_in (omega arith) (omega arith) (checked book) (checking book) (λ n e. counts-again n (counts-small book n e).0);
      decide = λ book condition set. told-again one_if yes_in (omega arith) (omega arith) (scored_answer book condition set) (deciding book condition set) (λ b e. yes-again b);
      score = λ book condition set lent. told-again score_value _ (omega arith) (omega arith) (shown_answer book condition set) (scoring book condition set) (score-again book condition set lent);
      compile = λ book condition lent. told-again itself itself (omega arith) (omega arith) (returned (compiled book condition lent)) (compiling book condition lent) (λ n e. refl);
      read = λ words set. told-again one_if yes_in (omega arith) (omega arith) (rod_answer words set) (rod-reading words set) (λ b e. yes-again b);
      traverse = λ words sets answers few. told-again answers_value itself (omega arith) (omega arith) (answer_count (traversed words sets answers)) (traversing words sets answers) (answers-again words sets answers few);
      choose = λ words. told-again chosen_value chosen_in (omega arith) (omega arith) (chosen words) (choosing words) (λ c e. chosen-again c (chosen-fits words c e));
      compare = λ one two. compared-again (length one / 4) (length two / 4) (comparison one two) (comparing one two);
    }
