-- What rod and logger say of a condition just compiled, by what compiling returned.
use Prim.Native.Nat.{ℕ}
use mathlib.Core.Bool.{Bool}
use mathlib.Core.List.{List}
use mathlib.Core.Path.{◌≡◌, refl, sym, ap, ap₂, subst, ◌∙◌}
use lib.ListN.{length}
use Rattle.std.specs.Prelude.{Result}
use Rattle.answers.specs.Answers.{Answer, result, refused, on_result}
use Rattle.answers.proofs.Results.{result-is, gone-on, passed-up}
use Rattle.layout.specs.Records.{Record}
use Rattle.layout.specs.Meaning.{listing_answer}
use Rattle.layout.specs.declared.Fault.{Fault}
use Rattle.rod.specs.Reading.{rod_answer}
use Rattle.peal.specs.Policies.{Condition, Book}
use Rattle.peal.specs.Score.{decision}
use Rattle.translation.specs.Translation.{listing_records}
use Rattle.book.specs.Books.{asked}
use Rattle.book.specs.Meaning.{condition_answer}
use Rattle.book.specs.declared.Declined.{Declined}
use Rattle.score.specs.Decisions.{scored_answer}
use Rattle.compiler.specs.Compiling.{fitting, compiled, returned, left_by, compiled_listing}
use Rattle.agreement.specs.Demand3.{SaySame, MinimalListing}
use Rattle.agreement.specs.Both.{Sayings, both_say}
use Rattle.agreement.proofs.Books.{scored-result}
use Rattle.agreement.proofs.Demand3.{compiled-agreement, say-same, minimal-listing}

-- a refusal of the first or of the second is passed up
through : {A B C : Type 0} (a : Answer A) (f : A → Answer B) (g : A → B → Answer C) (k v : ℕ)
    → on_result a f ≡ refused k v → on_result a (λ x. on_result (f x) (g x)) ≡ refused k v
through (result x) f g k v e = ap (λ y. on_result y (g x)) e
through {B = B} {C = C} (refused i j) f g k v e = ap (λ (y : Answer B). on_result {B = C} y (λ _. refused 0 0)) e

pub both-refused : (bytes : List ℕ) (number set lent k v : ℕ) → refused k v ≡ returned (compiled bytes number lent) → refused k v ≡ both_say bytes number set lent
unfolding returned compiled both_say
both-refused bytes number set lent k v e = sym (through (asked bytes number) _ _ k v (passed-up (compiled bytes number lent) length k v (sym e)))

-- so many records, and what each answered
abbrev saying : ℕ → Answer Bool → Answer Bool → Answer Sayings
saying n rod logger = result (record { records = n; rod = rod; logger = logger })

module _ (bytes : List ℕ) (number set : ℕ) (lent : List ℕ) where
  abbrev answered : Answer ℕ
  answered = returned (compiled bytes number (length lent))

  both_by : (b : Book) (c : Condition) (rs : List Record) → asked bytes number ≡ result (b, c) → fitting (length lent) (listing_records b c) ≡ result rs
      → let said = result (decision b.policies c set) in both_say bytes number set (length lent) ≡ saying (length rs) said said
  unfolding both_say
  both_by b c rs a f = rw (a, f) refl

  module _ (n : ℕ) (e : result n ≡ answered) where
    module _ (left : List ℕ) (f : left ≡ left_by bytes number lent) (rod : Result Bool Fault) (logger : Result Bool Declined)
        (r : listing_answer rod ≡ rod_answer (compiled_listing n left) set) (l : condition_answer logger ≡ scored_answer bytes number set) where
      by-listing : listing_answer rod ≡ rod_answer (compiled_listing n (left_by bytes number lent)) set
      by-listing = r ∙ ap (λ (ws : List ℕ). rod_answer (compiled_listing n ws) set) f

      pub both-said : saying n (listing_answer rod) (condition_answer logger) ≡ both_say bytes number set (length lent)
      unfolding returned compiled
      both-said =
          let (y, said, scored) = compiled-agreement bytes number set n lent (sym e) in
          let (rs, c, count) = gone-on (compiled bytes number (length lent)) _ n (sym e) in
          let ((b, k), a, g) = gone-on (asked bytes number) _ rs c in
          let decided = scored-result bytes number set b k a in
          ap (λ (i : ℕ). saying i (listing_answer rod) (condition_answer logger)) (sym (result-is count))
          ∙ ap₂ (saying (length rs)) (by-listing ∙ said ∙ sym scored ∙ decided) (l ∙ decided)
          ∙ sym (both_by b k rs a g)

      pub both-held : SaySame rod logger × MinimalListing bytes number (compiled_listing n left)
      both-held =
          let (y, said, scored) = compiled-agreement bytes number set n lent (sym e) in (
            say-same y rod logger (by-listing ∙ said) (l ∙ scored),
            subst (λ (ws : List ℕ). MinimalListing bytes number (compiled_listing n ws)) (sym f) (minimal-listing bytes number lent n (sym e)),
          )
