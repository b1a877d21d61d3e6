-- Laws of digits to a base that is a power of two.
use Prim.Native.Nat.{ℕ, zero, suc, ◌+◌, ◌*◌, ◌/◌, ◌%◌, ◌^◌, ◌<◌}
use mathlib.Core.Bool.{true, ◌&&◌}
use mathlib.Core.Path.{◌≡◌, sym, ap, ap₂, ◌∙◌}
use native.Mathlib.Omega.{arith}
use lib.Dec.{eqb}
use lib.Pow.{high, low}
use borrow.Author.Tests.{eqb-true, eq-eqb}
use Rattle.arith.proofs.Tests.{same_answer, and_left, and_right}

-- two numbers are equal where their lowest digits, to the base 2 to the k, and the rest are
pub digits : (k x y p q : ℕ) → p < 2 ^ k → q < 2 ^ k → eqb (x * 2 ^ k + p) (y * 2 ^ k + q) ≡ (eqb p q && eqb x y)
digits k x y p q hp hq = same_answer _ _ there back
  where
    there : eqb (x * 2 ^ k + p) (y * 2 ^ k + q) ≡ true → (eqb p q && eqb x y) ≡ true
    there e =
        let h : x * 2 ^ k + p ≡ y * 2 ^ k + q = eqb-true _ _ e in
        let rest : x ≡ y = sym (high x k hp) ∙ ap (λ (n : ℕ). n / 2 ^ k) h ∙ high y k hq in
        let lowest : p ≡ q = sym (low x k hp) ∙ ap (λ (n : ℕ). n % 2 ^ k) h ∙ low y k hq in
        rw (eq-eqb p q lowest, eq-eqb x y rest)

    back : (eqb p q && eqb x y) ≡ true → eqb (x * 2 ^ k + p) (y * 2 ^ k + q) ≡ true
    back e =
        eq-eqb (x * 2 ^ k + p) (y * 2 ^ k + q)
        (ap₂ (λ (a b : ℕ). a * 2 ^ k + b) (eqb-true x y (and_right (eqb p q) (eqb x y) e)) (eqb-true p q (and_left (eqb p q) (eqb x y) e)))

-- what holds of all four pairs of binary digits
pub two_digits : (P : ℕ → ℕ → Type 0) → P 0 0 → P 0 1 → P 1 0 → P 1 1 → (p q : ℕ) → p < 2 → q < 2 → P p q
two_digits P a b c d zero zero hp hq = a
two_digits P a b c d zero (suc zero) hp hq = b
two_digits P a b c d zero (suc (suc q)) hp hq = absurd (omega arith)
two_digits P a b c d (suc zero) zero hp hq = c
two_digits P a b c d (suc zero) (suc zero) hp hq = d
two_digits P a b c d (suc zero) (suc (suc q)) hp hq = absurd (omega arith)
two_digits P a b c d (suc (suc p)) q hp hq = absurd (omega arith)
