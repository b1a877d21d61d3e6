-- Lines against a set, one at a time.
use Prim.Native.Nat.{ℕ, ◌+◌, ◌/◌, ◌^◌, ◌≤◌, ◌<◌}
use mathlib.Core.Bool.{Bool, true, false, not}
use mathlib.Core.List.{List, [], ◌∷◌}
use mathlib.Core.Logic.{⊎_elim}
use mathlib.Core.Path.{◌≡◌, refl, sym, ap, subst, ◌∙◌}
use native.Mathlib.Omega.{arith}
use lib.Bits.{bit_and}
use lib.ListN.{length}
use borrow.Author.Tests.{eq-eqb, ne_eqb}
use Rattle.arith.proofs.Order.{le-or-lt}
use Rattle.signals.specs.Sets.{inside}
use Rattle.signals.proofs.SetLaws.{overlap-and}
use Rattle.layout.specs.Nodes.{ListedPolicy, leading_lines}
use Rattle.layout.specs.Steps.{records_from}
use Rattle.layout.proofs.Runs.{leading-more, leading_end}
use Rattle.rod.specs.Reading.{some_line, policy_value}
use Rattle.rod.specs.Values.{mask_at, AllSets, LinesTo}

-- at index i of a run of lines up to `end`: some line from `from` on lies inside the set where one from here on does
pub record Walk (ws : List ℕ) (from end set i : ℕ) : Type 0 where
  pub left : LinesTo ws i end
  pub same : some_line (leading_lines (records_from ws i)) set ≡ some_line (leading_lines (records_from ws from)) set

module _ {ws : List ℕ} {from end set i : ℕ} (w : Walk ws from end set i) where
  -- a line is left
  module _ (more : i < end) where
    within : i < length ws / 4
    within = ⊎_elim (λ h. absurd (omega (arith, w.left.run, ap length (past h)))) (λ h. h) (le-or-lt (length ws / 4) i)
      where
        past : length ws / 4 ≤ i → leading_lines (records_from ws i) ≡ []
        past h = leading_end ws i h

    first : leading_lines (records_from ws i) ≡ mask_at ws i ∷ leading_lines (records_from ws (i + 1))
    first = leading-more ws i within (omega (arith, w.left.run))

    pub walk_here : (i < length ws / 4) × (mask_at ws i ≤ 65535)
    walk_here = (within, (subst AllSets first w.left.sets).0)

    -- by the test of this line
    module _ (t : Bool) (told : t ≡ inside (mask_at ws i) set) where
      pub walk-found : t ≡ true → true ≡ some_line (leading_lines (records_from ws from)) set
      unfolding some_line
      walk-found e = rw (first, sym told ∙ e) refl ∙ w.same

      pub walk-on : t ≡ false → (j : ℕ) → i + 1 ≡ j → Walk ws from end set j
      unfolding some_line
      walk-on e j k =
          subst (Walk ws from end set) k
          (record {
            left = record { run = omega (arith, w.left.run, ap length first); sets = (subst AllSets first w.left.sets).1 };
            same = rw (first, sym told ∙ e) refl ∙ w.same;
          })

  -- no line is left
  pub walk_end : end ≤ i → false ≡ some_line (leading_lines (records_from ws from)) set
  unfolding some_line
  walk_end h = go (leading_lines (records_from ws i)) (omega (arith, w.left.run)) ∙ w.same
    where
      go : (ls : List ℕ) → length ls ≡ 0 → false ≡ some_line ls set
      go [] e = refl
      go (l ∷ ls) e = absurd (omega arith)

-- a policy's value, by the code's tests
module _ (p : ListedPolicy) (set : ℕ) (small : set < 2 ^ 16) where
  pub value-quiet : bit_and p.mask set ≡ 0 → p.quiet ≡ policy_value set p
  unfolding policy_value
  value-quiet e = rw (overlap-and p.mask set small, eq-eqb (bit_and p.mask set) 0 e) refl

  pub value-turned : (bit_and p.mask set ≡ 0 → ⊥) → p.turned ≡ true → (b : Bool) → b ≡ some_line p.lines set → not b ≡ policy_value set p
  unfolding policy_value
  value-turned e t b f = rw (overlap-and p.mask set small, ne_eqb (bit_and p.mask set) 0 e, t) (ap not f)

  pub value-plain : (bit_and p.mask set ≡ 0 → ⊥) → p.turned ≡ false → (b : Bool) → b ≡ some_line p.lines set → b ≡ policy_value set p
  unfolding policy_value
  value-plain e t b f = rw (overlap-and p.mask set small, ne_eqb (bit_and p.mask set) 0 e, t) f
