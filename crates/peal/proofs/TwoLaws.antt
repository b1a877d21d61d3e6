-- Two scores against a threshold: the larger is above it where one of them is, the smaller where both are; and the same turned over.
-- The smaller and the larger of several do not see how they are grouped and ordered, and are one of them.
use mathlib.Core.Bool.{Bool, true, false, not, cond, ◌&&◌, ◌||◌, not-not}
use mathlib.Core.Path.{◌≡◌, refl, sym, ap, ◌∙◌}
use lib.IntN.{ℤ}
use lib.Signed.{le_z, lt_z}
use Rattle.arith.proofs.Order.{lt_z-not, le_z-refl, le_z-trans, le_z-antisym, le_z-total, lt_z-le_z-trans}
use Rattle.arith.proofs.Tests.{clash, not-or, or-first, or-second}
use Rattle.peal.specs.Policies.{MinMax, smaller, larger}
use Rattle.peal.specs.Score.{of_two}

either : (P : ℤ → Type 0) (t : Bool) (a b : ℤ) → P a → P b → P (cond t a b)
either P true a b p q = p
either P false a b p q = q

pub one_of_two : (P : ℤ → Type 0) (m : MinMax) (a b : ℤ) → P a → P b → P (of_two m a b)
unfolding of_two
one_of_two P smaller a b p q = either P (le_z a b) a b p q
one_of_two P larger a b p q = either P (le_z a b) b a q p

pub not_lt_z : (a b : ℤ) → le_z a b ≡ not (lt_z b a)
not_lt_z a b = sym (ap not (lt_z-not b a) ∙ not-not (le_z a b))

module _ (t a b : ℤ) where
  pub larger-above : lt_z t (of_two larger a b) ≡ (lt_z t a || lt_z t b)
  unfolding of_two
  larger-above = go (le_z a b) refl
    where
      go : (c : Bool) → le_z a b ≡ c → lt_z t (cond c b a) ≡ (lt_z t a || lt_z t b)
      go true e = sym (or-second (lt_z t a) (lt_z t b) (λ h. lt_z-le_z-trans t a b h e))
      go false e = sym (or-first (lt_z t a) (lt_z t b) (λ h. lt_z-le_z-trans t b a h (le_z-total a b e)))

  pub smaller-at-most : le_z (of_two smaller a b) t ≡ (le_z a t || le_z b t)
  unfolding of_two
  smaller-at-most = go (le_z a b) refl
    where
      go : (c : Bool) → le_z a b ≡ c → le_z (cond c a b) t ≡ (le_z a t || le_z b t)
      go true e = sym (or-first (le_z a t) (le_z b t) (λ h. le_z-trans a b t e h))
      go false e = sym (or-second (le_z a t) (le_z b t) (λ h. le_z-trans b a t (le_z-total a b e) h))

  pub smaller-above : lt_z t (of_two smaller a b) ≡ (lt_z t a && lt_z t b)
  smaller-above = rw (lt_z-not t (of_two smaller a b), lt_z-not t a, lt_z-not t b, smaller-at-most) (not-or (le_z a t) (le_z b t))

  pub larger-at-most : le_z (of_two larger a b) t ≡ (le_z a t && le_z b t)
  larger-at-most = rw (not_lt_z (of_two larger a b) t, not_lt_z a t, not_lt_z b t, larger-above) (not-or (lt_z t a) (lt_z t b))

-- ---- in any grouping and order

not-at-most : (a b c : ℤ) → le_z a b ≡ false → le_z b c ≡ false → le_z a c ≡ false
not-at-most a b c p q = go (le_z a c) refl
  where
    go : (t : Bool) → le_z a c ≡ t → t ≡ false
    go true e = clash (le_z-trans a c b e (le_z-total b c q)) p
    go false e = refl

pub two-assoc : (m : MinMax) (a b c : ℤ) → of_two m (of_two m a b) c ≡ of_two m a (of_two m b c)
unfolding of_two
two-assoc m a b c = go m (le_z a b) (le_z b c) refl refl
  where
    go : (m : MinMax) (p q : Bool) → le_z a b ≡ p → le_z b c ≡ q → of_two m (of_two m a b) c ≡ of_two m a (of_two m b c)
    go smaller true true e f = rw (f, e, le_z-trans a b c e f)
    go smaller true false e f = rw (f, e)
    go smaller false true e f = rw (f, e, f)
    go smaller false false e f = rw (f, e, f, not-at-most a b c e f)
    go larger true true e f = rw (f, e, f, le_z-trans a b c e f)
    go larger true false e f = rw (f, e, f)
    go larger false true e f = rw (f, e)
    go larger false false e f = rw (f, e, not-at-most a b c e f)

two-comm : (m : MinMax) (a b : ℤ) → of_two m a b ≡ of_two m b a
unfolding of_two
two-comm m a b = go m (le_z a b) (le_z b a) refl refl
  where
    go : (m : MinMax) (p q : Bool) → le_z a b ≡ p → le_z b a ≡ q → of_two m a b ≡ of_two m b a
    go smaller true true e f = rw (e, f) (le_z-antisym a b e f)
    go smaller true false e f = rw (e, f)
    go smaller false true e f = rw (e, f)
    go smaller false false e f = clash (le_z-total a b e) f
    go larger true true e f = rw (e, f) (le_z-antisym b a f e)
    go larger true false e f = rw (e, f)
    go larger false true e f = rw (e, f)
    go larger false false e f = clash (le_z-total a b e) f

pub two-swap : (m : MinMax) (a b c : ℤ) → of_two m a (of_two m b c) ≡ of_two m b (of_two m a c)
two-swap m a b c = sym (two-assoc m a b c) ∙ ap (λ (x : ℤ). of_two m x c) (two-comm m a b) ∙ two-assoc m b a c

pub two-itself : (m : MinMax) (a : ℤ) → of_two m a a ≡ a
unfolding of_two
two-itself smaller a = rw (le_z-refl a)
two-itself larger a = rw (le_z-refl a)
