-- Rod and logger never disagree on an accepted book: its policies are in range, and the condition has at most 16 mentions.
use Prim.Native.Nat.{ℕ}
use mathlib.Core.List.{List}
use mathlib.Core.Path.{◌≡◌, sym, ap, ◌∙◌}
use Rattle.answers.specs.Answers.{Answer, result, on_result}
use Rattle.peal.specs.Policies.{Condition, Book}
use Rattle.peal.specs.Score.{decision}
use Rattle.book.specs.Books.{asked}
use Rattle.book.proofs.AskedLaws.{asked-in-range}
use Rattle.score.specs.Decisions.{scored_answer}
use Rattle.agreement.specs.BookAgreement.{BookAgreement}
use Rattle.agreement.proofs.Conditions.{condition-agreement}

-- the scored decision of the condition that was asked for
pub scored-result : (bytes : List ℕ) (number set : ℕ) (b : Book) (c : Condition) → asked bytes number ≡ result (b, c)
    → scored_answer bytes number set ≡ result (decision b.policies c set)
unfolding scored_answer
scored-result bytes number set b c e = ap (λ (a : Answer (Book × Condition)). on_result a (λ (b, c). result (decision b.policies c set))) e

pub book-agreement : BookAgreement
book-agreement bytes number set b c e =
    let (range, condition_range) = asked-in-range bytes number b c e in
    condition-agreement b c set range condition_range.mentions_room ∙ sym (scored-result bytes number set b c e)
