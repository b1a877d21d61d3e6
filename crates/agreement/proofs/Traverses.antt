-- A whole traverse by a listing that says of each set what the logger says.
use Prim.Native.Nat.{ℕ}
use mathlib.Core.Bool.{Bool, true, false}
use mathlib.Core.List.{List, [], ◌∷◌, Forall₂}
use mathlib.Core.Path.{◌≡◌, sym, ap, subst, ◌∙◌}
use lib.ListN.{length}
use Rattle.std.specs.Prelude.{Result, Ok}
use Rattle.answers.specs.Answers.{result}
use Rattle.answers.proofs.Results.{result-is, gone-on}
use Rattle.layout.specs.Records.{one_if}
use Rattle.layout.specs.Judgement.{verdict}
use Rattle.rod.specs.Reading.{says, rod_answer}
use Rattle.rod.specs.Traversing.{answers_to}
use Rattle.rod.specs.Meaning.{TraverseRan}
use Rattle.rod.specs.declared.TraverseError.{TraverseError}
use Rattle.rod.proofs.Traverses.{answered}
use Rattle.score.specs.Decisions.{scored_answer}
use Rattle.agreement.specs.Demand3.{WrittenFor, one_yes, zero_no, AsLogger, TraverseSays}
use Rattle.agreement.proofs.Oks.{condition-ok, traverse-ok}

-- the bit of an answer is what is written for a logger that gives this answer
written-for : (b : Bool) → WrittenFor (one_if b) (Ok b)
unfolding one_if
written-for true = one_yes
written-for false = zero_no

module _ (bytes : List ℕ) (number : ℕ) (ws : List ℕ)
    (same : (set : ℕ) → (b : Bool) × (rod_answer ws set ≡ result b) × (scored_answer bytes number set ≡ result b)) where
  -- the listing is sound, and says of a set what the logger says
  sound-saying : (set : ℕ) → (verdict ws ≡ result tt) × (scored_answer bytes number set ≡ result (says ws set))
  unfolding rod_answer
  sound-saying set =
      let (b, r, l) = same set in
      let (u, v, is) = gone-on (verdict ws) _ b r in
      (v, l ∙ ap result (sym (result-is is)))

  as-logger : (set : ℕ) → AsLogger bytes number set (one_if (says ws set))
  as-logger set logger l = rw (condition-ok logger (says ws set) (l ∙ (sound-saying set).1)) (written-for (says ws set))

  each_set : (sets : List ℕ) → Forall₂ (AsLogger bytes number) sets (answers_to ws sets)
  unfolding answers_to
  each_set [] = Forall₂.nil
  each_set (set ∷ sets) = Forall₂.cons (as-logger set) (each_set sets)

  pub traverse-says : (sets lent : List ℕ) (returned : Result ℕ TraverseError) (left : List ℕ) → length sets ≡ length lent
      → TraverseRan ws sets lent returned left → TraverseSays bytes number sets returned left
  traverse-says sets lent returned left equal ran =
      let well = answered ws sets lent equal (sound-saying 0).0 in
      record {
        all = traverse-ok returned (length sets) (ran.returning ∙ sym well.returning);
        each = subst (Forall₂ (AsLogger bytes number) sets) (well.leaving ∙ sym ran.leaving) (each_set sets);
      }
