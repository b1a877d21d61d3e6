-- The judgement, a step at a time: what the code's parts say together is a step, and what a step says of the judgement.
use Prim.Native.Nat.{ℕ, ◌+◌, ◌/◌, ◌%◌, ◌≤◌, ◌<◌}
use mathlib.Core.Bool.{Bool, ◌&&◌, and-false}
use mathlib.Core.List.{List, [], ◌∷◌}
use mathlib.Core.Option.{none, some}
use mathlib.Core.Logic.{◌⊎◌}
use mathlib.Core.Path.{◌≡◌, sym, subst}
use native.Mathlib.Omega.{arith}
use lib.Dec.{eqb, leb}
use lib.ListN.{length}
use Rattle.answers.specs.Answers.{result, refused}
use Rattle.layout.specs.Records.{Record, Kind, policy, line, join, exclusion, unknown, kind_of}
use Rattle.layout.specs.Judgement.{if_any, SoFar, no_record, so_far_after, judged, length_sound, verdict}
use Rattle.layout.specs.Steps.{record_at, records_from, step_of, step_at}
use Rattle.layout.proofs.Places.{from_cons, from-nil}

-- a record follows where the number of the next one is not 0
pub followed : (b : Bool) (next n : ℕ) (after : List Kind)
    → ((b && eqb next (if_any after (n + 1))) && leb 1 (if_any after (n + 1))) ≡ ((b && eqb next (n + 1)) && leb 1 (length after))
unfolding if_any
followed b next n [] = simp and-false
followed b next n (k ∷ ks) = grind arith

-- what a step says of the judgement
module _ (ws : List ℕ) (i : ℕ) (so : SoFar) (h : i < length ws / 4) where
  pub judged-on : (next : SoFar) → some next ≡ step_at ws i so → judged i so (records_from ws i) ≡ judged (i + 1) next (records_from ws (i + 1))
  unfolding judged step_at step_of
  judged-on next e = rw (from_cons ws i h) (grind (arith, e))

  pub judged-stop : none ≡ step_at ws i so → judged i so (records_from ws i) ≡ refused 10 (i + 1)
  unfolding judged step_at step_of
  judged-stop e = rw (from_cons ws i h) (grind (arith, e))

-- after the last record one value is left, or not
module _ (ws : List ℕ) (i : ℕ) (so : SoFar) (h : length ws / 4 ≤ i) where
  pub judged-sound : so.values ≡ 1 → judged i so (records_from ws i) ≡ result tt
  unfolding judged
  judged-sound e = rw (from-nil ws i h) (grind (arith, e))

  pub judged-left : (so.values ≡ 1 → ⊥) → judged i so (records_from ws i) ≡ refused 10 i
  unfolding judged
  judged-left e = rw (from-nil ws i h) (grind (arith, e))

-- the verdict
module _ (ws : List ℕ) where
  pub unsound_length : (length ws ≡ 0) ⊎ (length ws % 4 ≡ 0 → ⊥) → refused 9 0 ≡ verdict ws
  unfolding verdict length_sound
  unsound_length h = grind (arith, h)

  pub whole : (length ws ≡ 0 → ⊥) → length ws % 4 ≡ 0 → judged 0 no_record (records_from ws 0) ≡ verdict ws
  unfolding verdict length_sound records_from
  whole d e = grind (arith, d, e)

-- what stands above the next record, where a step leads there
pub step-made : (n : ℕ) (so next : SoFar) (k : Kind) (r : Record) (after : List Kind) → some next ≡ step_of n so k r after → next ≡ so_far_after so k r
unfolding step_of
step-made n so next k r after e = grind (arith, e)

-- there are never more values than policies
pub step-values : (ws : List ℕ) (i : ℕ) (so next : SoFar) → so.values ≤ so.policies → some next ≡ step_at ws i so → next.values ≤ next.policies
unfolding step_at so_far_after
step-values ws i so next h e = subst (λ (x : SoFar). x.values ≤ x.policies) (sym (step-made _ _ _ _ _ _ e)) (few (kind_of (record_at ws i).kind))
  where
    few : (k : Kind) → (so_far_after so k (record_at ws i)).values ≤ (so_far_after so k (record_at ws i)).policies
    few line = h
    few (policy q t) = omega arith
    few (join j) = omega arith
    few exclusion = h
    few unknown = h

-- how the judgement ends
pub ruleset endings = (unsound_length, judged-sound, judged-left)
