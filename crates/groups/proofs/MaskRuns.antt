-- Runs of records, as lines or excluded pairs are, and their masks.
use Prim.Native.Nat.{ℕ, zero, suc, ◌+◌, ◌-◌, ◌/◌, ◌≤◌, ◌<◌}
use mathlib.Core.Bool.{Bool}
use mathlib.Core.List.{List, [], ◌∷◌}
use mathlib.Core.Logic.{⊎_elim}
use mathlib.Core.Path.{◌≡◌, refl, sym, ap, subst, ◌∙◌}
use native.Mathlib.Nat.{add-zero}
use native.Mathlib.Omega.{arith}
use lib.ListN.{length}
use Rattle.arith.proofs.Order.{le-or-lt}
use Rattle.layout.specs.Nodes.{leading_lines}
use Rattle.layout.specs.Steps.{records_from}
use Rattle.layout.proofs.Runs.{leading-more, leading_end}
use Rattle.rod.specs.Values.{mask_at, AllSets, LinesTo}
use Rattle.groups.specs.Groups.{GroupOf, masks_from, MasksAt}
use Rattle.groups.specs.Values.{PolicyHere}

-- a run has the mask of the record here, and then those of the run from the next record on
module _ (ws : List ℕ) (run : ℕ → List ℕ) (more : (i : ℕ) → 0 < length (run i) → (i < length ws / 4) × (run i ≡ mask_at ws i ∷ run (i + 1))) where
  run-masks : (n i : ℕ) → length (run i) ≡ n → run i ≡ masks_from ws i n
  unfolding masks_from
  run-masks zero i e = empty (run i) e
    where
      empty : (ms : List ℕ) → length ms ≡ 0 → ms ≡ []
      empty [] h = refl
      empty (m ∷ ms) h = absurd (omega arith)
  run-masks (suc n) i e =
      let m = more i (omega arith) in
      m.1 ∙ ap (λ (ms : List ℕ). mask_at ws i ∷ ms) (run-masks n (i + 1) (omega (arith, ap length m.1)))

  run-within : (n i : ℕ) → length (run i) ≡ n → i ≤ length ws / 4 → i + n ≤ length ws / 4
  run-within zero i e h = rw (add-zero i) h
  run-within (suc n) i e h =
      let m = more i (omega arith) in
      let r = run-within n (i + 1) (omega (arith, ap length m.1)) (omega (arith, m.0)) in
      omega arith

  -- up to its end
  module _ (from end : ℕ) (e : end ≡ from + length (run from)) where
    pub masks-run : run from ≡ masks_from ws from (end - from)
    masks-run = run-masks (end - from) from (omega arith)

    pub masks-at : from ≤ length ws / 4 → AllSets (run from) → MasksAt ws from end
    masks-at h s =
        record { ordered = omega arith; within = omega (arith, run-within (end - from) from (omega arith) h); sets = subst AllSets masks-run s }

-- ---- lines

-- where lines are left, one stands here
line-more : (ws : List ℕ) (i : ℕ) → 0 < length (leading_lines (records_from ws i))
    → (i < length ws / 4) × (leading_lines (records_from ws i) ≡ mask_at ws i ∷ leading_lines (records_from ws (i + 1)))
line-more ws i some =
    ⊎_elim
    (λ (l : length ws / 4 ≤ i). absurd (omega (arith, ap length (leading_end ws i l))))
    (λ (l : i < length ws / 4). (l, leading-more ws i l some))
    (le-or-lt (length ws / 4) i)

module _ (ws : List ℕ) (from end : ℕ) (l : LinesTo ws from end) where
  lines-run : leading_lines (records_from ws from) ≡ masks_from ws from (end - from)
  lines-run = masks-run ws (λ i. leading_lines (records_from ws i)) (line-more ws) from end l.run

  lines_at : from ≤ length ws / 4 → MasksAt ws from end
  lines_at h = masks-at ws (λ i. leading_lines (records_from ws i)) (line-more ws) from end l.run h l.sets

-- those of a policy
module _ (ws : List ℕ) (at end : ℕ) (p : PolicyHere ws at end) where
  pub policy-masks : MasksAt ws (at + 1) end
  policy-masks = lines_at ws (at + 1) end p.lines (omega (arith, p.within))

  -- some of its lines, by their masks
  pub policy-found : (test : List ℕ → ℕ → Bool) (group : ℕ) (table : List ℕ) → GroupOf (test (masks_from ws (at + 1) (end - (at + 1)))) group table
      → GroupOf (test (leading_lines (records_from ws (at + 1)))) group table
  policy-found test group table g = subst (λ (ms : List ℕ). GroupOf (test ms) group table) (sym (lines-run ws (at + 1) end p.lines)) g
