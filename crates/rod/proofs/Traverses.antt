-- A whole traverse: the answers filled in one by one, and what the call returns and leaves in each case.
use Prim.Native.Nat.{ℕ, ◌+◌, ◌<◌, ◌≤◌}
use mathlib.Core.Bool.{Bool, true, false}
use mathlib.Core.List.{List}
use mathlib.Core.Path.{◌≡◌, refl, sym, ap, ◌∙◌}
use native.Mathlib.Omega.{arith}
use borrow.Author.Tests.{eq-eqb, ne_eqb}
use lib.Dec.{eqb}
use lib.ListN.{length, get_or, set, length-map, get_or-map}
use mir.Val.{bool_byte}
use Rattle.arith.proofs.Filling.{filled, filled_more, filled-all}
use Rattle.answers.specs.Answers.{result, refused, on_result}
use Rattle.answers.proofs.Results.{result-is, required, gone-on}
use Rattle.layout.specs.Records.{one_if}
use Rattle.layout.specs.Judgement.{verdict}
use Rattle.layout.specs.Meaning.{fault_number, fault_value, fault_meaning}
use Rattle.layout.specs.declared.Fault.{Fault}
use Rattle.rod.specs.Reading.{says}
use Rattle.rod.specs.Traversing.{answers_to, traversed, answer_count, answers_after}
use Rattle.std.specs.Prelude.{Result, Ok, Err}
use Rattle.rod.specs.Meaning.{traverse_meaning, TraverseRan}
use Rattle.rod.specs.declared.TraverseError.{TraverseError}
use Rattle.rod.specs.declared.TraverseError.TheVariants.{Unequal, Declined}

-- ---- the answers

byte-is-one-if : (b : Bool) → bool_byte b ≡ one_if b
unfolding one_if
byte-is-one-if true = refl
byte-is-one-if false = refl

module _ (ws sets : List ℕ) where
  pub as_many : length (answers_to ws sets) ≡ length sets
  unfolding answers_to
  as_many = length-map sets _

  answer-to : (i : ℕ) → get_or (answers_to ws sets) i (one_if (says ws 0)) ≡ one_if (says ws (get_or sets i 0))
  unfolding answers_to
  answer-to i = get_or-map _ sets i 0

  module _ (lent : List ℕ) where
    -- one answer more
    pub answered-more : (i : ℕ) → i < length sets → length sets ≡ length lent
        → (left : List ℕ) → left ≡ filled i (answers_to ws sets) lent
        → (b : Bool) → b ≡ says ws (get_or sets i 0) → set left i (bool_byte b) ≡ filled (i + 1) (answers_to ws sets) lent
    answered-more i h equal left e b s =
        let new : bool_byte b ≡ get_or (answers_to ws sets) i (one_if (says ws 0)) = byte-is-one-if b ∙ ap one_if s ∙ sym (answer-to i) in
        rw (e, new) (filled_more (answers_to ws sets) lent i (one_if (says ws 0)) (omega (arith, as_many)) (omega arith))

    -- all of them
    pub answered-all : (i : ℕ) → length sets ≤ i → length sets ≡ length lent → filled i (answers_to ws sets) lent ≡ answers_to ws sets
    answered-all i h equal = filled-all (answers_to ws sets) lent i (omega (arith, as_many)) (omega arith)

    -- ---- the definition, by the lengths and the verdict

    unequal-refused : (length sets ≡ length lent → ⊥) → traversed ws sets lent ≡ refused 11 0
    unfolding traversed
    unequal-refused differ = rw (ne_eqb (length sets) (length lent) differ) refl

    pub equal-examined : length sets ≡ length lent → traversed ws sets lent ≡ on_result (verdict ws) (λ u. result (answers_to ws sets))
    unfolding traversed
    equal-examined equal = rw (eq-eqb (length sets) (length lent) equal) refl

    -- where answers are given, the listing is sound, and they are those to the sets
    pub answers-given : (answers : List ℕ) → traversed ws sets lent ≡ result answers → (verdict ws ≡ result tt) × (answers_to ws sets ≡ answers)
    unfolding traversed
    answers-given answers e =
        let (equal, judged) = required (eqb (length sets) (length lent)) 11 0 _ answers e in
        let (u, v, is) = gone-on (verdict ws) _ answers judged in
        (v, result-is is)

    -- ---- what the call returns and leaves in each case

    refused-by : (returned : Result ℕ TraverseError) (number value : ℕ) → traverse_meaning returned ≡ refused number value
        → traversed ws sets lent ≡ refused number value → TraverseRan ws sets lent returned lent
    unfolding answer_count answers_after
    refused-by returned number value r e = record { returning = r ∙ rw e refl; leaving = rw e refl }

    pub unequal : (length sets ≡ length lent → ⊥) → TraverseRan ws sets lent (Err Unequal) lent
    unequal differ = refused-by (Err Unequal) 11 0 refl (unequal-refused differ)

    pub unsound : length sets ≡ length lent → (fault : Fault) → verdict ws ≡ fault_meaning fault → TraverseRan ws sets lent (Err (Declined fault)) lent
    unsound equal fault v = refused-by (Err (Declined fault)) (fault_number fault) (fault_value fault) refl (rw (equal-examined equal, v) refl)

    pub answered : length sets ≡ length lent → verdict ws ≡ result tt → TraverseRan ws sets lent (Ok (length sets)) (answers_to ws sets)
    unfolding answer_count answers_after
    answered equal v = record { returning = rw (equal-examined equal, v, as_many) refl; leaving = rw (equal-examined equal, v) refl }
