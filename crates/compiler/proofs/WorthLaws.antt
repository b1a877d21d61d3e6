-- The operator over the scores of a set, against its limit, tells whether the set has the property.
use Prim.Native.Nat.{ℕ, zero, suc, ◌+◌, ◌-◌, ◌*◌, ◌^◌, ◌≤◌, ◌<◌}
use mathlib.Core.Bool.{Bool, true, false, cond, ◌||◌}
use mathlib.Core.List.{List, [], ◌∷◌, ◌++◌}
use mathlib.Core.Path.{◌≡◌, refl, sym, ap, ◌∙◌}
use native.Mathlib.Nat.{mul_assoc, mul-le-mul_right, le_of_mul-le-mul_right, pow-suc, mul_comm, mul_right_comm}
use native.Mathlib.Omega.{arith}
use lib.Dec.{leb, ltb}
use lib.IntN.{ℤ, pos, negsuc, neg_ℤ, ◌+ℤ◌, ◌*ℤ◌, +ℤ_assoc, +ℤ_idl, *ℤ_comm}
use lib.ListN.{length}
use lib.Pow.{pow-add}
use borrow.Author.Tests.{leb-true, le-leb, lt-leb, ltb-true, le-ltb}
use lib.Signed.{le_z, lt_z}
use Rattle.arith.specs.Lists.{exists}
use Rattle.arith.proofs.Tests.{and_left, same_answer}
use Rattle.arith.proofs.Whole.{times-assoc, times-one}
use Rattle.peal.specs.Policies.{Rule, MinMax, smaller, larger}
use Rattle.peal.specs.Score.{total, score_product, scaled_product, scaled, of_two}
use Rattle.peal.specs.Lines.{score_above, score_at_most, has}
use Rattle.peal.specs.SearchFindsLines.{RulesFit}
use Rattle.peal.specs.Combining.{combined_of}
use Rattle.peal.specs.declared.Operator.{Operator}
use Rattle.peal.specs.declared.Operator.TheVariants.{Min, Max, Sum, Mul}
use Rattle.peal.proofs.HavingLaws.{product-natural}
use Rattle.peal.proofs.TwoLaws.{larger-above, smaller-at-most, two-assoc, two-swap, two-itself}
use Rattle.limits.specs.Limits.{within, threshold_in_range}
use Rattle.compiler.specs.Worth.{initial, worth, clamped, limit_of, reached_of}

-- ---- an operator takes three scores in any grouping

combined-assoc : (o : Operator) (a b c : ℤ) → combined_of o (combined_of o a b) c ≡ combined_of o a (combined_of o b c)
unfolding combined_of
combined-assoc Sum a b c = +ℤ_assoc a b c
combined-assoc Mul a b c = times-assoc a b c
combined-assoc Max a b c = two-assoc larger a b c
combined-assoc Min a b c = two-assoc smaller a b c

-- ---- the worth of sets put together

-- what an operator has over no score changes nothing in front of a worth
once_more : (m : MinMax) (o : Operator) → ((v w : ℤ) → combined_of o v w ≡ of_two m v w) → (X : List Rule) → combined_of o (initial o) (worth o X) ≡ worth o X
unfolding worth
once_more m o f [] = f (initial o) (initial o) ∙ two-itself m (initial o)
once_more m o f (r ∷ X) =
    ap (combined_of o (initial o)) (f r.score (worth o X)) ∙ f (initial o) (of_two m r.score (worth o X)) ∙ two-swap m (initial o) r.score (worth o X)
    ∙ ap (of_two m r.score) (sym (f (initial o) (worth o X)) ∙ once_more m o f X) ∙ sym (f r.score (worth o X))

initial-first : (o : Operator) (X : List Rule) → combined_of o (initial o) (worth o X) ≡ worth o X
unfolding combined_of initial
initial-first Sum X = +ℤ_idl (worth Sum X)
initial-first Mul X = *ℤ_comm (pos 1) (worth Mul X) ∙ times-one (worth Mul X)
initial-first Max X = once_more larger Max (λ v w. refl) X
initial-first Min X = once_more smaller Min (λ v w. refl) X

pub worth-append : (o : Operator) (X Y : List Rule) → worth o (X ++ Y) ≡ combined_of o (worth o X) (worth o Y)
unfolding worth
worth-append o [] Y = sym (initial-first o Y)
worth-append o (r ∷ X) Y = ap (combined_of o r.score) (worth-append o X Y) ∙ sym (combined-assoc o r.score (worth o X) (worth o Y))

-- ---- the limit

positive : (j : ℕ) → 0 < 100 ^ j
positive zero = omega arith
positive (suc j) = omega (arith, pow-suc 100 j, positive j)

all-eight : (k : ℕ) → k ≤ 8 → 100 ^ (8 - k) * 100 ^ k ≡ 100 ^ 8
all-eight k h = let e : 8 - k + k ≡ 8 = omega arith in sym (pow-add 100 (8 - k) k) ∙ ap (λ (m : ℕ). 100 ^ m) e

-- n parts of which a unit has 100 to the k, against t hundredths
module _ (n k t : ℕ) (few : k ≤ 8) where
  both_ways : n * 100 ^ (8 - k) * 100 ^ k ≡ n * 100 * 100 ^ 7
  both_ways = mul_assoc n (100 ^ (8 - k)) (100 ^ k) ∙ ap (λ (m : ℕ). n * m) (all-eight k few) ∙ omega arith

  same_parts : leb (n * 100 ^ (8 - k)) (t * 10 ^ 14) ≡ leb (n * 100) (t * 100 ^ k)
  same_parts =
      same_answer (leb (n * 100 ^ (8 - k)) (t * 10 ^ 14)) (leb (n * 100) (t * 100 ^ k))
      (λ h. le-leb (n * 100) (t * 100 ^ k) (le_of_mul-le-mul_right {k = 100 ^ 7} (omega (arith, both_ways, swap, mul-le-mul_right (100 ^ k) (leb-true (n * 100 ^ (8 - k)) (t * 10 ^ 14) h))) (omega arith)))
      (λ h. le-leb (n * 100 ^ (8 - k)) (t * 10 ^ 14) (le_of_mul-le-mul_right {k = 100 ^ k} (omega (arith, both_ways, swap, mul-le-mul_right (100 ^ 7) (leb-true (n * 100) (t * 100 ^ k) h))) (positive k)))
    where
      swap : t * 10 ^ 14 * 100 ^ k ≡ t * 100 ^ k * 100 ^ 7
      swap = mul_right_comm t (10 ^ 14) (100 ^ k)

not-below-zero : (a m : ℕ) → 0 < m → le_z (pos a) (neg_ℤ (pos m)) ≡ false
not-below-zero a zero h = absurd (omega arith)
not-below-zero a (suc m) h = refl

pub product-worth : (X : List Rule) → score_product X ≡ worth Mul X
unfolding score_product worth initial combined_of
product-worth [] = refl
product-worth (r ∷ X) = ap (λ (z : ℤ). r.score *ℤ z) (product-worth X)

total-worth : (X : List Rule) → total X ≡ worth Sum X
unfolding total worth initial combined_of
total-worth [] = refl
total-worth (r ∷ X) = ap (λ (z : ℤ). r.score +ℤ z) (total-worth X)

-- n parts of k scores against T, as the limit has it
mul-limit : (n k : ℕ) (t : ℤ) → k ≤ 8 → n ≤ 100 ^ k → le_z (pos n *ℤ pos 100) (limit_of Mul t k) ≡ le_z (pos n *ℤ pos (100 ^ (8 - k))) (t *ℤ pos (10 ^ 14))
unfolding limit_of clamped
mul-limit n k (negsuc t) few h = not-below-zero (n * 100) (1 * 100 ^ k) (omega (arith, positive k)) ∙ sym (not-below-zero (n * 100 ^ (8 - k)) (suc t * 10 ^ 14) (omega arith))
mul-limit n k (pos t) few h = rw (le-ltb t 0 (omega arith)) (go (ltb 100 t) refl)
  where
    go : (b : Bool) → ltb 100 t ≡ b → le_z (pos (n * 100)) (cond b (pos 100) (pos t) *ℤ pos (100 ^ k)) ≡ leb (n * 100 ^ (8 - k)) (t * 10 ^ 14)
    go true e =
        le-leb (n * 100) (100 * 100 ^ k) (omega arith)
        ∙ sym (le-leb (n * 100 ^ (8 - k)) (t * 10 ^ 14) (omega (arith, ltb-true 100 t e, all-eight k few, mul-le-mul_right (100 ^ (8 - k)) h, mul_comm (100 ^ k) (100 ^ (8 - k)))))
    go false e = sym (same_parts n k t few)

-- thresholds lie between what max and min have over no score
not-above-initial : (t : ℤ) → threshold_in_range t ≡ true → lt_z t (initial Max) ≡ false
unfolding within initial
not-above-initial (pos t) h = refl
not-above-initial (negsuc t) h = le-ltb 200000 t (omega (arith, leb-true t 199999 (and_left (leb t 199999) true h)))

not-at-initial : (t : ℤ) → threshold_in_range t ≡ true → le_z (initial Min) t ≡ false
unfolding within initial
not-at-initial (pos t) h = lt-leb 200001 t (omega (arith, leb-true t 200000 h))
not-at-initial (negsuc t) h = refl

max-exists : (t : ℤ) → lt_z t (initial Max) ≡ false → (X : List Rule) → lt_z t (worth Max X) ≡ exists (score_above t) X
unfolding worth combined_of
max-exists t h [] = h
max-exists t h (r ∷ X) = larger-above t r.score (worth Max X) ∙ ap (λ (b : Bool). lt_z t r.score || b) (max-exists t h X)

min-exists : (t : ℤ) → le_z (initial Min) t ≡ false → (X : List Rule) → le_z (worth Min X) t ≡ exists (score_at_most t) X
unfolding worth combined_of
min-exists t h [] = h
min-exists t h (r ∷ X) = smaller-at-most t r.score (worth Min X) ∙ ap (λ (b : Bool). le_z r.score t || b) (min-exists t h X)

-- a set is worth what its limit asks exactly if it has the property
pub worth-has : (o : Operator) (t : ℤ) (X : List Rule) → RulesFit o X → threshold_in_range t ≡ true
    → reached_of o (limit_of o t (length X)) (worth o X) ≡ has o t X
unfolding reached_of limit_of has scaled_product scaled
worth-has Sum t X f h = ap (lt_z t) (sym (total-worth X))
worth-has Max t X f h = max-exists t (not-above-initial t h) X
worth-has Min t X f h = min-exists t (not-at-initial t h) X
worth-has Mul t X f h =
    let n = product-natural X f.scores in
    ap (λ (z : ℤ). le_z (z *ℤ pos 100) (limit_of Mul t (length X))) (sym (product-worth X) ∙ n.1)
    ∙ mul-limit n.0 (length X) t (f.room refl) n.2
    ∙ ap (λ (z : ℤ). le_z (z *ℤ pos (100 ^ (8 - length X))) (t *ℤ pos (10 ^ 14))) (sym n.1)
