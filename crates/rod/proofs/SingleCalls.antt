-- A traverse answers as single calls do.
use Prim.Native.Nat.{ℕ}
use mathlib.Core.List.{List, [], ◌∷◌, map}
use mathlib.Core.Logic.{◌↔◌}
use mathlib.Core.Path.{◌≡◌, refl, sym, ap, ◌∙◌}
use lib.ListN.{length}
use Rattle.answers.specs.Answers.{result, refused}
use Rattle.answers.proofs.Results.{passed-up}
use Rattle.layout.specs.Records.{one_if}
use Rattle.layout.specs.Judgement.{verdict}
use Rattle.rod.specs.Reading.{says, rod_answer}
use Rattle.rod.specs.Traversing.{answers_to, traversed}
use Rattle.rod.specs.SingleCalls.{single_answer, SingleCalls}
use Rattle.rod.proofs.Traverses.{equal-examined, answers-given}

module _ (ws : List ℕ) where
  single : verdict ws ≡ result tt → (set : ℕ) → single_answer ws set ≡ result (one_if (says ws set))
  unfolding single_answer rod_answer
  single v set = rw v refl

  singles : verdict ws ≡ result tt → (sets : List ℕ) → map (single_answer ws) sets ≡ map result (answers_to ws sets)
  unfolding answers_to
  singles v [] = refl
  singles v (set ∷ sets) = rw (single v set, singles v sets) refl

  in_order : (sets lent answers : List ℕ) → traversed ws sets lent ≡ result answers → map (single_answer ws) sets ≡ map result answers
  in_order sets lent answers e = let (v, is) = answers-given ws sets lent answers e in singles v sets ∙ ap (map result) is

  -- of equally long slices it is refused exactly where the verdict refuses, as a single call is
  declined-alike : (sets lent : List ℕ) (set number value : ℕ) → length sets ≡ length lent
      → (traversed ws sets lent ≡ refused number value) ↔ (rod_answer ws set ≡ refused number value)
  unfolding rod_answer
  declined-alike sets lent set number value equal =
      let same = equal-examined ws sets lent equal in (
        λ e. rw (passed-up (verdict ws) (λ u. answers_to ws sets) number value (sym same ∙ e)) refl,
        λ e. rw (same, passed-up (verdict ws) (λ u. says ws set) number value e) refl,
      )

pub single-calls : SingleCalls
single-calls = record { answered = in_order; declined = declined-alike }
