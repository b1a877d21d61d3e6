-- What is shown is the score, and tells the decision.
use Prim.Native.Nat.{ℕ}
use mathlib.Core.Bool.{Bool}
use mathlib.Core.List.{List}
use mathlib.Core.Path.{◌≡◌, refl, ap, subst}
use Rattle.answers.specs.Answers.{Answer, result, refused, on_result}
use Rattle.answers.proofs.Results.{gone-on, result-is}
use Rattle.peal.specs.Policies.{Condition, Book}
use Rattle.peal.specs.Score.{score, decision}
use Rattle.book.specs.Books.{asked}
use Rattle.book.proofs.AskedLaws.{asked-in-range}
use Rattle.score.specs.Decisions.{scored_answer}
use Rattle.score.specs.Shown.{shown, shown_answer, meets_shown}
use Rattle.score.specs.ShownTells.{ShownTells}
use Rattle.score.specs.declared.exact.Exact.{Exact}
use Rattle.score.proofs.ShownLaws.{is-shown, pair-shown, above-shown, meets-shown, shown-expression}
use Rattle.score.proofs.ScoreRange.{InHundredths, shown-in-range}

module _ (bytes : List ℕ) (number set : ℕ) where
  told-by-shown : scored_answer bytes number set
      ≡ on_result (asked bytes number) (λ (b, c). on_result (shown_answer bytes number set) (λ x. result (meets_shown c.sense c.threshold x)))
  unfolding scored_answer shown_answer decision
  told-by-shown = go (asked bytes number)
    where
      go : (a : Answer (Book × Condition)) → on_result a (λ (b, c). result (decision b.policies c set))
          ≡ on_result a (λ (b, c). on_result (on_result a (λ (b, c). result (shown (score b.policies set c.expression)))) (λ x. result (meets_shown c.sense c.threshold x)))
      go (result (b, c)) = ap (λ (x : Bool). result x) (meets-shown c.sense c.threshold (score b.policies set c.expression))
      go (refused k v) = refl

  in-range : (x : Exact) → shown_answer bytes number set ≡ result x → InHundredths x.hundredths
  unfolding shown_answer
  in-range x h =
      let ((b, c), e, f) = gone-on (asked bytes number) _ x h in
      subst (λ (y : Exact). InHundredths y.hundredths) (result-is f)
      (shown-in-range b.policies set c.expression (asked-in-range bytes number b c e).0.policies)

pub shown-tells : ShownTells
shown-tells =
    record {
      small = λ v. (is-shown v).small;
      exact = λ v. (is-shown v).same;
      only = λ x l. pair-shown x _ (record { small = l; same = refl });
      pairs = shown-expression;
      above = above-shown;
      decides = told-by-shown;
      range = in-range;
    }
