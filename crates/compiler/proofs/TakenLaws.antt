-- One rule more among those taken: what they are worth, their mask, their range.
use Prim.Native.Nat.{ℕ, ◌+◌, ◌*◌, ◌^◌, ◌≤◌, ◌<◌}
use mathlib.Core.Bool.{Bool, true, false, cond}
use mathlib.Core.List.{List, [], ◌∷◌, ◌++◌}
use mathlib.Core.Path.{◌≡◌, refl, sym, ap, ◌∙◌}
use native.Mathlib.Nat.{pow-le-pow_right}
use native.Mathlib.Omega.{arith}
use lib.IntN.{ℤ, pos, negsuc, neg_ℤ, +ℤ_idr}
use lib.ListN.{length, length-append}
use lib.Signed.{le_z}
use Rattle.arith.specs.Members.{Each}
use Rattle.arith.proofs.Each.{each_more}
use Rattle.arith.proofs.Order.{le_z-trans}
use Rattle.arith.proofs.Tests.{and_left, and_right, clash}
use Rattle.arith.proofs.Whole.{times-one}
use Rattle.signals.specs.Sets.{set_of}
use Rattle.peal.specs.Policies.{Rule, smaller, larger, mask_of}
use Rattle.peal.specs.Score.{of_two}
use Rattle.peal.specs.Combining.{combined_of}
use Rattle.peal.specs.declared.Operator.{Operator}
use Rattle.peal.specs.declared.Operator.TheVariants.{Min, Max, Sum, Mul}
use Rattle.book.specs.Acceptance.{within, score_in_range}
use Rattle.book.proofs.ScoreSizes.{InScore}
use Rattle.compiler.specs.Worth.{initial, worth, above_all}
use Rattle.compiler.specs.Planning.{RulesInRange}
use Rattle.compiler.proofs.WorthLaws.{worth-append}

-- ---- the worth

-- the operator over one score alone is that score
module _ (v : ℤ) where
  alone-larger : le_z (neg_ℤ (pos 10000)) v ≡ true → of_two larger v (neg_ℤ above_all) ≡ v
  unfolding of_two
  alone-larger h = go (le_z v (negsuc 200000)) refl
    where
      go : (b : Bool) → le_z v (negsuc 200000) ≡ b → cond b (negsuc 200000) v ≡ v
      go true e = clash (le_z-trans (negsuc 9999) v (negsuc 200000) h e) refl
      go false e = refl

  alone-smaller : le_z v (pos 10000) ≡ true → of_two smaller v above_all ≡ v
  unfolding of_two
  alone-smaller h = rw (le_z-trans v (pos 10000) above_all h refl)

  alone : (o : Operator) → score_in_range o v ≡ true → combined_of o v (initial o) ≡ v
  unfolding combined_of initial score_in_range within
  alone Sum h = +ℤ_idr v
  alone Mul h = times-one v
  alone Max h = alone-larger (and_left (le_z (neg_ℤ (pos 10000)) v) (le_z v (pos 10000)) h)
  alone Min h = alone-smaller (and_right (le_z (neg_ℤ (pos 10000)) v) (le_z v (pos 10000)) h)

pub worth-more : (o : Operator) (X : List Rule) (r : Rule) → score_in_range o r.score ≡ true → combined_of o (worth o X) r.score ≡ worth o (X ++ (r ∷ []))
unfolding worth
worth-more o X r h = ap (combined_of o (worth o X)) (sym (alone r.score o h)) ∙ sym (worth-append o X (r ∷ []))

-- ---- the mask is the sum of its bits

bit-small : (s : ℕ) → s ≤ 15 → set_of (s ∷ []) ≤ 2 ^ 15
unfolding set_of
bit-small s h = omega (arith, pow-le-pow_right {n = 2} (omega arith) {i = s} {j = 15} h)

pub mask-small : (X : List Rule) → Each (λ (r : Rule). r.signal < 16) X → mask_of X ≤ 32768 * length X
unfolding mask_of set_of
mask-small [] h = omega arith
mask-small (r ∷ X) h = omega (arith, bit-small r.signal (omega (arith, h.0)), mask-small X h.1)

-- ---- the range

each_both : {A : Type 0} (P : A → Type 0) (xs ys : List A) → Each P xs → Each P ys → Each P (xs ++ ys)
each_both P [] ys h k = k
each_both P (x ∷ xs) ys h k = (h.0, each_both P xs ys h.1 k)

module _ (o : Operator) (X : List Rule) (h : RulesInRange o X) where
  pub range-both : (Y : List Rule) → RulesInRange o Y → length X + length Y ≤ 16 → (o ≡ Mul → length X + length Y ≤ 8) → RulesInRange o (X ++ Y)
  range-both Y k few room =
      record {
        signals = each_both (λ (x : Rule). x.signal < 16) X Y h.signals k.signals;
        scores = each_both (InScore o) X Y h.scores k.scores;
        few = omega (arith, length-append X Y);
        room = λ m. omega (arith, length-append X Y, room m);
      }

  pub range-more : (r : Rule) → r.signal < 16 → InScore o r → length X + 1 ≤ 16 → (o ≡ Mul → length X + 1 ≤ 8) → RulesInRange o (X ++ (r ∷ []))
  range-more r signal score few room =
      record {
        signals = each_more (λ (x : Rule). x.signal < 16) X r h.signals signal;
        scores = each_more (InScore o) X r h.scores score;
        few = omega (arith, length-append X (r ∷ []));
        room = λ m. omega (arith, length-append X (r ∷ []), room m);
      }
