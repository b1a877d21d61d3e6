-- The limits of sets of rules: how large they are, and the next one.
use Prim.Native.Nat.{ℕ, zero, suc, ◌+◌, ◌*◌, ◌^◌, ◌≤◌}
use mathlib.Core.Bool.{Bool, true, false, cond}
use mathlib.Core.Path.{◌≡◌, refl, sym, ap, ◌∙◌}
use native.Mathlib.Nat.{pow-suc, mul-le-mul_right, pow-le-pow_right}
use native.Mathlib.Numerals.{add-one}
use native.Mathlib.Omega.{arith}
use lib.Dec.{ltb}
use lib.IntN.{ℤ, pos, negsuc, neg_ℤ, ◌*ℤ◌}
use lib.Signed.{mag}
use borrow.Author.Tests.{le-ltb, lt-ltb, ltb-false}
use mir.Syntax.{w64}
use mir.Val.{SFits}
use Rattle.std.specs.Int.{int_min, int_max}
use Rattle.arith.proofs.Order.{scale-scale}
use Rattle.arith.proofs.Whole.{times-one}
use Rattle.peal.specs.declared.Operator.{Operator}
use Rattle.peal.specs.declared.Operator.TheVariants.{Min, Max, Sum, Mul}
use Rattle.book.proofs.ScoreSizes.{within-mag}
use Rattle.compiler.specs.Worth.{clamped, limit_of}
use Rattle.compiler.specs.Planning.{ThresholdFits}

-- ---- sizes

neg-mag : (m : ℕ) → mag (neg_ℤ (pos m)) ≤ m
neg-mag zero = omega arith
neg-mag (suc m) = omega arith

mag-times : (z : ℤ) (n : ℕ) → mag (z *ℤ pos n) ≤ suc (mag z) * n
mag-times (pos a) n = let h : a ≤ suc a = omega arith in mul-le-mul_right n h
mag-times (negsuc a) n = neg-mag (suc a * n)

pub hundredfold-fits : (z : ℤ) → mag z ≤ 10 ^ 16 → SFits w64 (z *ℤ pos 100)
hundredfold-fits z h = record { sfits = omega (arith, mag-times z 100) }

clamped-times : (t : ℤ) (n : ℕ) → mag (clamped t *ℤ pos n) ≤ 100 * n
unfolding clamped
clamped-times (negsuc t) n = omega (arith, neg-mag (1 * n))
clamped-times (pos t) n = rw (le-ltb t 0 (omega arith)) (go (ltb 100 t) refl)
  where
    go : (b : Bool) → ltb 100 t ≡ b → mag (cond b (pos 100) (pos t) *ℤ pos n) ≤ 100 * n
    go true e = omega arith
    go false e = mul-le-mul_right n (ltb-false 100 t e)

power : (k : ℕ) → k ≤ 7 → 100 ^ k ≤ 100 ^ 7
power k h = pow-le-pow_right {n = 100} (omega arith) h

-- in mul a limit has at most 9 factors of 100
pub limit-small : (o : Operator) (t : ℤ) (k : ℕ) → ThresholdFits t → (o ≡ Mul → k ≤ 7) → mag (limit_of o t k) ≤ 10 ^ 16
unfolding limit_of
limit-small Sum t k h r = omega (arith, within-mag 200000 200000 t h 200000 (omega arith) (omega arith))
limit-small Max t k h r = omega (arith, within-mag 200000 200000 t h 200000 (omega arith) (omega arith))
limit-small Min t k h r = omega (arith, within-mag 200000 200000 t h 200000 (omega arith) (omega arith))
limit-small Mul t k h r = omega (arith, clamped-times t (100 ^ k), power k (r refl))

-- ---- the next limit

pub next-hundredfold : (o : Operator) → o ≡ Mul → (limit t : ℤ) (k : ℕ) → limit ≡ limit_of o t k → limit *ℤ pos 100 ≡ limit_of o t (k + 1)
unfolding limit_of
next-hundredfold o m limit t k e =
    let h : 100 ^ k * 100 ≡ 100 ^ (k + 1) = sym (pow-suc 100 k) ∙ ap (λ (j : ℕ). 100 ^ j) (sym (add-one k)) in
    ap (λ (z : ℤ). z *ℤ pos 100) (e ∙ ap (λ (x : Operator). limit_of x t k) m)
    ∙ scale-scale (clamped t) (100 ^ k) 100 ∙ ap (λ (n : ℕ). clamped t *ℤ pos n) h
    ∙ ap (λ (x : Operator). limit_of x t (k + 1)) (sym m)

-- ---- the first limit

-- the library's way to clamp
pub clamped-as : (t : ℤ) → int_max (negsuc 0) (int_min t (pos 100)) ≡ clamped t
unfolding clamped
clamped-as (negsuc zero) = refl
clamped-as (negsuc (suc t)) = rw (lt-ltb 0 (suc t) (omega arith))
clamped-as (pos t) = rw (le-ltb t 0 (omega arith)) (go (ltb 100 t))
  where
    go : (b : Bool) → int_max (negsuc 0) (cond b (pos 100) (pos t)) ≡ cond b (pos 100) (pos t)
    go true = refl
    go false = refl

pub clamped-limit : (t : ℤ) → clamped t ≡ limit_of Mul t 0
unfolding limit_of
clamped-limit t = sym (times-one (clamped t))

-- ---- what holds of the other operators holds where the code finds that the operator is not mul

pub not-mul : (P : Operator → Type 0) (o : Operator) → (o ≡ Mul → ⊥) → P Min → P Max → P Sum → P o
not-mul P Min h a b c = a
not-mul P Max h a b c = b
not-mul P Sum h a b c = c
not-mul P Mul h a b c = absurd (h refl)
