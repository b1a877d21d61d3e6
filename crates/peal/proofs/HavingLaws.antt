-- The property of lines, for each operator: it does not see the rules' order, and it is kept with a rule more and with a rule of higher rank.
use Prim.Native.Nat.{ℕ, suc, ◌*◌, ◌-◌, ◌^◌, ◌≤◌}
use mathlib.Core.Bool.{true, false}
use mathlib.Core.List.{List, [], ◌∷◌, Permᴰ}
use mathlib.Core.Path.{◌≡◌, refl, sym, ap, ap₂, subst, ◌∙◌}
use native.Mathlib.Nat.{mul-le-mul, pow-suc, pow-succ'}
use native.Mathlib.Omega.{arith}
use lib.Dec.{leb}
use lib.IntN.{ℤ, pos, negsuc, ◌+ℤ◌, ◌*ℤ◌, *ℤ_comm, +ℤ_idl}
use lib.ListN.{length}
use lib.Signed.{le_z, lt_z}
use borrow.Author.Tests.{leb-true}
use Rattle.arith.specs.Lists.{exists}
use Rattle.arith.specs.Members.{Each}
use Rattle.arith.proofs.Order.{le_z-trans, lt_z-le_z-trans, not-less, le_z-plus, le_z-times, scale-scale}
use Rattle.arith.proofs.Whole.{+ℤ-swap, *ℤ-swap}
use Rattle.arith.proofs.Tests.{clash, and_right, or_right, or-then}
use Rattle.arith.proofs.Reordering.{same-reordered, length-reordered, exists-reordered}
use Rattle.peal.specs.Policies.{Rule}
use Rattle.peal.specs.Score.{scaled, total, score_product, scaled_product}
use Rattle.peal.specs.Ranking.{ranks_above}
use Rattle.peal.specs.Lines.{score_above, score_at_most, has}
use Rattle.peal.specs.SearchFindsLines.{score_fits, RulesFit}
use Rattle.peal.specs.declared.Operator.{Operator}
use Rattle.peal.specs.declared.Operator.TheVariants.{Min, Max, Sum, Mul}

-- ---- the order of the rules

total-reordered : {X Y : List Rule} → Permᴰ X Y → total X ≡ total Y
unfolding total
total-reordered d =
    same-reordered total (λ a b X. +ℤ-swap a.score b.score (total X)) (λ a X Y e. ap (λ (z : ℤ). a.score +ℤ z) e) d

product-reordered : {X Y : List Rule} → Permᴰ X Y → score_product X ≡ score_product Y
unfolding score_product
product-reordered d =
    same-reordered score_product (λ a b X. *ℤ-swap a.score b.score (score_product X)) (λ a X Y e. ap (λ (z : ℤ). a.score *ℤ z) e) d

pub has-reordered : (op : Operator) (t : ℤ) {X Y : List Rule} → Permᴰ X Y → has op t X ≡ has op t Y
unfolding has scaled_product
has-reordered Sum t d = ap (lt_z t) (total-reordered d)
has-reordered Mul t d =
    ap₂ (λ (p : ℤ) (n : ℕ). le_z (p *ℤ pos (100 ^ (8 - n))) (scaled t)) (product-reordered d) (length-reordered d)
has-reordered Max t d = exists-reordered (score_above t) d
has-reordered Min t d = exists-reordered (score_at_most t) d

-- ---- a rule more, and a rule of higher rank, for each operator

unit-score : (v : ℤ) → score_fits Mul v ≡ true → (n : ℕ) × (v ≡ pos n) × (n ≤ 100)
unfolding score_fits
unit-score (pos n) h = (n, refl, leb-true n 100 (and_right (leb 0 n) (leb n 100) h))
unit-score (negsuc n) h = clash h refl

-- the product of scores from 0 to 100 is a natural number, at most 100 to their number
pub product-natural : (X : List Rule) → Each (λ (r : Rule). score_fits Mul r.score ≡ true) X → (p : ℕ) × (score_product X ≡ pos p) × (p ≤ 100 ^ length X)
unfolding score_product
product-natural [] h = (1, refl, omega arith)
product-natural (r ∷ X) h =
    let s = unit-score r.score h.0 in
    let i = product-natural X h.1 in
    (s.0 * i.0, ap (λ (z : ℤ). z *ℤ score_product X) s.1 ∙ ap (λ (z : ℤ). pos s.0 *ℤ z) i.1, omega (arith, pow-suc 100 (length X), mul-le-mul s.2 i.2))

-- a product rises with one of its scores
product-rises : (v w : ℤ) (X : List Rule) (n : ℕ) → Each (λ (r : Rule). score_fits Mul r.score ≡ true) X → le_z v w ≡ true
    → le_z (v *ℤ score_product X *ℤ pos n) (w *ℤ score_product X *ℤ pos n) ≡ true
product-rises v w X n h l =
    let p = product-natural X h in rw p.1 (le_z-times (v *ℤ pos p.0) (w *ℤ pos p.0) n (le_z-times v w p.0 l))

-- one unit in place of one more score
with_unit : (X : List Rule) (n : ℕ) → suc n ≤ 8 → pos 100 *ℤ score_product X *ℤ pos (100 ^ (8 - suc n)) ≡ score_product X *ℤ pos (100 ^ (8 - n))
with_unit X n h =
    let less : suc (8 - suc n) ≡ 8 - n = omega arith in
    ap (λ (z : ℤ). z *ℤ pos (100 ^ (8 - suc n))) (*ℤ_comm (pos 100) (score_product X))
    ∙ scale-scale (score_product X) 100 (100 ^ (8 - suc n))
    ∙ ap (λ (k : ℕ). score_product X *ℤ pos k) (sym (pow-succ' 100 (8 - suc n)) ∙ ap (λ (k : ℕ). 100 ^ k) less)

pub has-added : (op : Operator) (t : ℤ) (r : Rule) (X : List Rule) → RulesFit op (r ∷ X) → has op t X ≡ true → has op t (r ∷ X) ≡ true
unfolding has scaled_product score_product total score_fits
has-added Sum t r X fit h =
    lt_z-le_z-trans t (total X) (r.score +ℤ total X) h (rw +ℤ_idl at (le_z-plus (pos 0) r.score (total X) fit.scores.0))
has-added Mul t r X fit h =
    le_z-trans (scaled_product (r ∷ X)) (scaled_product X) (scaled t)
    (subst (λ (z : ℤ). le_z (scaled_product (r ∷ X)) z ≡ true) (with_unit X (length X) (fit.room refl))
    (product-rises r.score (pos 100) X (100 ^ (8 - suc (length X))) fit.scores.1
    (and_right (le_z (pos 0) r.score) (le_z r.score (pos 100)) fit.scores.0))) h
has-added Max t r X fit h = or_right (lt_z t r.score) (exists (score_above t) X) h
has-added Min t r X fit h = or_right (le_z r.score t) (exists (score_at_most t) X) h

pub has-exchanged : (op : Operator) (t : ℤ) (a b : Rule) (X : List Rule) → RulesFit op X → ranks_above op b.score a.score ≡ false
    → has op t (b ∷ X) ≡ true → has op t (a ∷ X) ≡ true
unfolding has scaled_product score_product total ranks_above
has-exchanged Sum t a b X fit l h =
    lt_z-le_z-trans t (b.score +ℤ total X) (a.score +ℤ total X) h (le_z-plus b.score a.score (total X) (not-less a.score b.score l))
has-exchanged Mul t a b X fit l h =
    le_z-trans (scaled_product (a ∷ X)) (scaled_product (b ∷ X)) (scaled t)
    (product-rises a.score b.score X (100 ^ (8 - length (a ∷ X))) fit.scores (not-less b.score a.score l)) h
has-exchanged Max t a b X fit l h =
    or-then (lt_z t b.score) (lt_z t a.score) (exists (score_above t) X)
    (λ k. lt_z-le_z-trans t b.score a.score k (not-less a.score b.score l)) h
has-exchanged Min t a b X fit l h =
    or-then (le_z b.score t) (le_z a.score t) (exists (score_at_most t) X)
    (λ k. le_z-trans a.score b.score t (not-less b.score a.score l) k) h
