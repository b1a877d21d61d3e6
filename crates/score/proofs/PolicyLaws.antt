-- The score of a policy, its rules one by one: the operator over the present rules, and how large it is.
use Prim.Native.Nat.{ℕ, ◌-◌, ◌*◌, ◌^◌, ◌≤◌}
use mathlib.Core.List.{List, [], ◌∷◌}
use mathlib.Core.Path.{◌≡◌, refl, sym, ap, subst, ◌∙◌}
use native.Mathlib.Nat.{le_trans, pow-le-pow_right}
use native.Mathlib.Omega.{arith}
use lib.IntN.{ℤ, pos, ◌+ℤ◌, ◌*ℤ◌, +ℤ_idr}
use lib.ListN.{length}
use lib.Signed.{mag}
use Rattle.arith.proofs.Signed.{mag-add}
use Rattle.arith.proofs.Whole.{times-one}
use Rattle.peal.specs.Policies.{Rule, Policy, MinMax, smaller, larger}
use Rattle.peal.specs.Score.{scaled, total, score_product, scaled_product, of_two, of_all, applied}
use Rattle.peal.specs.Combining.{combined_of}
use Rattle.peal.specs.declared.Operator.{Operator}
use Rattle.peal.specs.declared.Operator.TheVariants.{Min, Max, Sum, Mul}
use Rattle.peal.specs.SearchFindsLines.{score_fits}
use Rattle.peal.proofs.HavingLaws.{product-natural}
use Rattle.peal.proofs.TwoLaws.{one_of_two}
use Rattle.book.specs.Acceptance.{within, score_in_range}
use Rattle.book.proofs.ScoreSizes.{score-mag, InRange, Room}
use Rattle.score.specs.PolicyScores.{over, present_of, value_with, with_score}

-- ---- the operator over rules, as it is defined

over-all : (m : MinMax) (o : Operator) → ((v w : ℤ) → combined_of o v w ≡ of_two m v w) → (r : Rule) (rs : List Rule) → over o r rs ≡ of_all m r rs
unfolding over of_all
over-all m o h r [] = refl
over-all m o h r (q ∷ rs) = h r.score (over o q rs) ∙ ap (of_two m r.score) (over-all m o h q rs)

over-sum : (r : Rule) (rs : List Rule) → over Sum r rs ≡ total (r ∷ rs)
unfolding over combined_of total
over-sum r [] = sym (+ℤ_idr r.score)
over-sum r (q ∷ rs) = ap (λ (z : ℤ). r.score +ℤ z) (over-sum q rs)

over-mul : (r : Rule) (rs : List Rule) → over Mul r rs ≡ score_product (r ∷ rs)
unfolding over combined_of score_product
over-mul r [] = sym (times-one r.score)
over-mul r (q ∷ rs) = ap (λ (z : ℤ). r.score *ℤ z) (over-mul q rs)

-- in parts
pub applied-whole : (o : Operator) → (o ≡ Mul → ⊥) → (r : Rule) (rs : List Rule) → scaled (over o r rs) ≡ applied o r rs
unfolding applied combined_of
applied-whole Min h r rs = ap scaled (over-all smaller Min (λ v w. refl) r rs)
applied-whole Max h r rs = ap scaled (over-all larger Max (λ v w. refl) r rs)
applied-whole Sum h r rs = ap scaled (over-sum r rs)
applied-whole Mul h r rs = absurd (h refl)

pub applied-mul : (r : Rule) (rs : List Rule) → over Mul r rs *ℤ pos (100 ^ (8 - length (r ∷ rs))) ≡ applied Mul r rs
unfolding applied scaled_product
applied-mul r rs = ap (λ (z : ℤ). z *ℤ pos (100 ^ (8 - length (r ∷ rs)))) (over-mul r rs)

-- ---- one rule more

pub present-more : (p : Policy) (r : Rule) (rs : List Rule) → with_score p.operator (present_of p rs) r.score ≡ present_of p (r ∷ rs)
unfolding with_score value_with present_of over
present-more p r [] = refl
present-more p r (q ∷ rs) = refl

-- ---- how large the operator over rules is

-- n rules at most, in an operator
abbrev bound : Operator → ℕ → ℕ
bound Min n = 10000
bound Max n = 10000
bound Sum n = 10001 * n
bound Mul n = 100 ^ n

pub mul-natural : (r : Rule) (rs : List Rule) → InRange Mul (r ∷ rs) → (n : ℕ) × (over Mul r rs ≡ pos n) × (n ≤ 100 ^ length (r ∷ rs))
unfolding score_in_range within score_fits
mul-natural r rs h = let p = product-natural (r ∷ rs) h in (p.0, over-mul r rs ∙ p.1, p.2)

over-mag : (o : Operator) (r : Rule) (rs : List Rule) → InRange o (r ∷ rs) → mag (over o r rs) ≤ bound o (length (r ∷ rs))
unfolding over combined_of
over-mag Min r [] h = score-mag Min r.score h.0
over-mag Min r (q ∷ rs) h = one_of_two (λ (z : ℤ). mag z ≤ 10000) smaller r.score (over Min q rs) (score-mag Min r.score h.0) (over-mag Min q rs h.1)
over-mag Max r [] h = score-mag Max r.score h.0
over-mag Max r (q ∷ rs) h = one_of_two (λ (z : ℤ). mag z ≤ 10000) larger r.score (over Max q rs) (score-mag Max r.score h.0) (over-mag Max q rs h.1)
over-mag Sum r [] h = omega (arith, score-mag Sum r.score h.0)
over-mag Sum r (q ∷ rs) h = omega (arith, score-mag Sum r.score h.0, over-mag Sum q rs h.1, mag-add r.score (over Sum q rs))
over-mag Mul r rs h = let t = mul-natural r rs h in subst (λ (z : ℤ). mag z ≤ 100 ^ length (r ∷ rs)) (sym t.1) t.2

bound-small : (o : Operator) (n : ℕ) → Room o n → bound o n ≤ 10 ^ 16
bound-small Min n h = omega arith
bound-small Max n h = omega arith
bound-small Sum n h = omega (arith, h.0)
bound-small Mul n h = pow-le-pow_right {n = 100} (omega arith) (h.1 refl)

pub over-small : (o : Operator) (r : Rule) (rs : List Rule) → InRange o (r ∷ rs) → Room o (length (r ∷ rs)) → mag (over o r rs) ≤ 10 ^ 16
over-small o r rs h k = le_trans (over-mag o r rs h) (bound-small o (length (r ∷ rs)) k)
