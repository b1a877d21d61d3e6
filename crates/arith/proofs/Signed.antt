-- Signed numbers as the code holds them: a local holds bits, and `to_z w (of_z w z)` is what is read back.
-- `mag z` is n for n, and n for -(n + 1); a number fits where its `mag` is small enough.
use Prim.Native.Nat.{ℕ, zero, suc, ◌+◌, ◌^◌, ◌≤◌, ◌<◌}
use mathlib.Core.Bool.{Bool, true, false, cond}
use mathlib.Core.Path.{◌≡◌, sym, ap, subst, ◌∙◌}
use native.Mathlib.Omega.{arith}
use lib.Dec.{T, ltb}
use lib.IntN.{ℤ, pos, negsuc, neg_ℤ, nat_abs, ◌+ℤ◌, ◌-ℤ◌}
use lib.Signed.{mag, non_neg, lt_z, le_z}
use mir.Syntax.{Width, w32, w64}
use mir.Val.{Fits, SFits, to_z, of_z}
use mir.Facts.{to_z-of_z, sfits_widen, Fits-of_lt}

-- ---- sizes of sums and differences

mag-cond : (t : Bool) (x y : ℤ) (n : ℕ) → mag x ≤ n → mag y ≤ n → mag (cond t x y) ≤ n
mag-cond true x y n p q = p
mag-cond false x y n p q = q

pub mag-add : (a b : ℤ) → mag (a +ℤ b) ≤ mag a + mag b + 1
mag-add (pos a) (pos b) = omega arith
mag-add (pos a) (negsuc b) = mag-cond (ltb a (suc b)) _ _ _ (omega arith) (omega arith)
mag-add (negsuc a) (pos b) = mag-cond (ltb b (suc a)) _ _ _ (omega arith) (omega arith)
mag-add (negsuc a) (negsuc b) = omega arith

mag-neg : (a : ℤ) → mag (neg_ℤ a) ≤ mag a + 1
mag-neg (pos zero) = omega arith
mag-neg (pos (suc a)) = omega arith
mag-neg (negsuc a) = omega arith

pub mag-sub : (a b : ℤ) → mag (a -ℤ b) ≤ mag a + mag b + 2
mag-sub a b = omega (arith, mag-add a (neg_ℤ b), mag-neg b)

-- ---- what is read back

-- what an operation makes of two numbers
module _ (w : Width) (op : ℤ → ℤ → ℤ) (a b : ℤ) (ha : SFits w a) (hb : SFits w b) (h : SFits w (op a b)) where
  pub both-fit : SFits w (op (to_z w (of_z w a)) (to_z w (of_z w b)))
  both-fit = rw (to_z-of_z {w = w} {z = a} ha, to_z-of_z {w = w} {z = b} hb) h

  pub both-back : to_z w (of_z w (op (to_z w (of_z w a)) (to_z w (of_z w b)))) ≡ op a b
  both-back = rw (to_z-of_z {w = w} {z = a} ha, to_z-of_z {w = w} {z = b} hb) (to_z-of_z {w = w} {z = op a b} h)

-- an i32 as an i64
module _ (z : ℤ) (h : SFits w32 z) where
  pub wide_fits : SFits w64 (to_z w32 (of_z w32 z))
  wide_fits = rw (to_z-of_z {w = w32} {z = z} h) (sfits_widen {w = w32} {w' = w64} tt h)

  pub wide_back : to_z w64 (of_z w64 (to_z w32 (of_z w32 z))) ≡ z
  wide_back =
      ap (λ (y : ℤ). to_z w64 (of_z w64 y)) (to_z-of_z {w = w32} {z = z} h)
      ∙ to_z-of_z {w = w64} {z = z} (sfits_widen {w = w32} {w' = w64} tt h)

-- a natural number as a u64
pub natural-fits : (z : ℤ) (n : ℕ) → z ≡ pos n → n < 2 ^ 64 → T (non_neg z) × Fits w64 (nat_abs z)
natural-fits z n e h = subst (λ (y : ℤ). T (non_neg y) × Fits w64 (nat_abs y)) (sym e) (tt, Fits-of_lt {w = w64} h)

-- a test, as a branch leaves it, said of the numbers
module _ (w : Width) (a b : ℤ) (t : Bool) (ha : SFits w a) (hb : SFits w b) where
  pub tested-lt : lt_z (to_z w (of_z w a)) (to_z w (of_z w b)) ≡ t → lt_z a b ≡ t
  tested-lt e = rw (to_z-of_z {w = w} {z = a} ha, to_z-of_z {w = w} {z = b} hb) at e

  pub tested_le : le_z (to_z w (of_z w a)) (to_z w (of_z w b)) ≡ t → le_z a b ≡ t
  tested_le e = rw (to_z-of_z {w = w} {z = a} ha, to_z-of_z {w = w} {z = b} hb) at e
