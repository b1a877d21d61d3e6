-- Sums and products of whole numbers do not see the order of their parts.
use Prim.Native.Nat.{ℕ, zero, suc}
use mathlib.Core.Path.{◌≡◌, sym, ap, ◌∙◌}
use native.Mathlib.Nat.{mul-one}
use lib.IntN.{ℤ, pos, negsuc, neg_ℤ, neg_ℤ-neg_ℤ, ◌+ℤ◌, +ℤ_assoc, +ℤ_comm, ◌*ℤ◌, *ℤ_comm, *ℤ-zero, *ℤ-negsuc}
use Rattle.arith.proofs.Order.{scale-scale}

pub +ℤ-swap : (a b c : ℤ) → a +ℤ (b +ℤ c) ≡ b +ℤ (a +ℤ c)
+ℤ-swap a b c = sym (+ℤ_assoc a b c) ∙ ap (λ (x : ℤ). x +ℤ c) (+ℤ_comm a b) ∙ +ℤ_assoc b a c

times-neg : (a b : ℤ) → a *ℤ neg_ℤ b ≡ neg_ℤ (a *ℤ b)
times-neg a (pos zero) = *ℤ-zero a ∙ sym (ap neg_ℤ (*ℤ-zero a))
times-neg a (pos (suc n)) = *ℤ-negsuc a n
times-neg a (negsuc n) = sym (neg_ℤ-neg_ℤ (a *ℤ pos (suc n))) ∙ ap neg_ℤ (sym (*ℤ-negsuc a n))

neg-times : (a b : ℤ) → neg_ℤ a *ℤ b ≡ neg_ℤ (a *ℤ b)
neg-times a b = *ℤ_comm (neg_ℤ a) b ∙ times-neg b a ∙ ap neg_ℤ (*ℤ_comm b a)

pos-assoc : (a : ℤ) (m : ℕ) (c : ℤ) → a *ℤ pos m *ℤ c ≡ a *ℤ (pos m *ℤ c)
pos-assoc a m (pos n) = scale-scale a m n
pos-assoc a m (negsuc n) = *ℤ-negsuc (a *ℤ pos m) n ∙ ap neg_ℤ (scale-scale a m (suc n)) ∙ sym (times-neg a (pos m *ℤ pos (suc n)))

pub times-assoc : (a b c : ℤ) → a *ℤ b *ℤ c ≡ a *ℤ (b *ℤ c)
times-assoc a (pos m) c = pos-assoc a m c
times-assoc a (negsuc m) c =
    ap (λ (x : ℤ). x *ℤ c) (*ℤ-negsuc a m)
    ∙ neg-times (a *ℤ pos (suc m)) c
    ∙ ap neg_ℤ (pos-assoc a (suc m) c)
    ∙ sym (times-neg a (pos (suc m) *ℤ c))
    ∙ ap (λ (x : ℤ). a *ℤ x) (sym (neg-times (pos (suc m)) c))

pub *ℤ-swap : (a b c : ℤ) → a *ℤ (b *ℤ c) ≡ b *ℤ (a *ℤ c)
*ℤ-swap a b c = sym (times-assoc a b c) ∙ ap (λ (x : ℤ). x *ℤ c) (*ℤ_comm a b) ∙ times-assoc b a c

pub times-one : (z : ℤ) → z *ℤ pos 1 ≡ z
times-one (pos n) = ap pos (mul-one n)
times-one (negsuc n) = ap (λ (k : ℕ). neg_ℤ (pos k)) (mul-one (suc n))
