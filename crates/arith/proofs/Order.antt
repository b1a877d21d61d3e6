-- The order of whole numbers with a sign, for `omega`, which reads naturals: z is `above z` less `under z`, one of which is 0.
use Prim.Native.Nat.{ℕ, zero, suc, ◌+◌, ◌-◌, ◌*◌, ◌≤◌, ◌<◌}
use mathlib.Core.Bool.{Bool, true, false, not, cond}
use mathlib.Core.Logic.{◌⊎◌, inl, inr}
use mathlib.Core.Path.{◌≡◌, refl, sym, ap, ◌∙◌}
use native.Mathlib.Nat.{zero-mul, mul_assoc, mul-le-mul_right, le_of_mul-le-mul_right}
use native.Mathlib.Omega.{arith}
use lib.Dec.{leb, ltb}
use lib.IntN.{ℤ, pos, negsuc, neg_ℤ, ◌+ℤ◌, ◌*ℤ◌}
use lib.Signed.{le_z, lt_z}
use borrow.Author.Tests.{not-false, leb-true, leb-false, ltb-true, ltb-false, le-leb, lt-ltb, le-ltb}
use Rattle.arith.proofs.Tests.{clash, same_answer}

pub le-or-lt : (a b : ℕ) → (a ≤ b) ⊎ (b < a)
le-or-lt a b = go (leb a b) refl
  where
    go : (t : Bool) → leb a b ≡ t → (a ≤ b) ⊎ (b < a)
    go true e = inl (leb-true a b e)
    go false e = inr (leb-false a b e)

abbrev pub above : ℤ → ℕ
above (pos n) = n
above (negsuc n) = 0

abbrev pub under : ℤ → ℕ
under (pos n) = 0
under (negsuc n) = suc n

-- ---- an order of two whole numbers is one of two sums of naturals

pub le_z-le : (a b : ℤ) → le_z a b ≡ true → above a + under b ≤ above b + under a
le_z-le (pos a) (pos b) h = omega (arith, leb-true a b h)
le_z-le (pos a) (negsuc b) h = clash h refl
le_z-le (negsuc a) (pos b) h = omega arith
le_z-le (negsuc a) (negsuc b) h = omega (arith, leb-true b a h)

pub le-le_z : (a b : ℤ) → above a + under b ≤ above b + under a → le_z a b ≡ true
le-le_z (pos a) (pos b) h = le-leb a b (omega arith)
le-le_z (pos a) (negsuc b) h = absurd (omega arith)
le-le_z (negsuc a) (pos b) h = refl
le-le_z (negsuc a) (negsuc b) h = le-leb b a (omega arith)

pub lt_z-lt : (a b : ℤ) → lt_z a b ≡ true → above a + under b < above b + under a
lt_z-lt (pos a) (pos b) h = omega (arith, leb-true (suc a) b h)
lt_z-lt (pos a) (negsuc b) h = clash h refl
lt_z-lt (negsuc a) (pos b) h = omega arith
lt_z-lt (negsuc a) (negsuc b) h = omega (arith, leb-true (suc b) a h)

pub lt-lt_z : (a b : ℤ) → above a + under b < above b + under a → lt_z a b ≡ true
lt-lt_z (pos a) (pos b) h = lt-ltb a b (omega arith)
lt-lt_z (pos a) (negsuc b) h = absurd (omega arith)
lt-lt_z (negsuc a) (pos b) h = refl
lt-lt_z (negsuc a) (negsuc b) h = lt-ltb b a (omega arith)

-- ---- less is not at least

not-leb : (a b : ℕ) → ltb a b ≡ not (leb b a)
not-leb a b = go (leb b a) refl
  where
    go : (t : Bool) → leb b a ≡ t → ltb a b ≡ not t
    go true e = le-ltb a b (leb-true b a e)
    go false e = lt-ltb a b (leb-false b a e)

pub lt_z-not : (a b : ℤ) → lt_z a b ≡ not (le_z b a)
lt_z-not (pos a) (pos b) = not-leb a b
lt_z-not (pos a) (negsuc b) = refl
lt_z-not (negsuc a) (pos b) = refl
lt_z-not (negsuc a) (negsuc b) = not-leb b a

pub le_z-refl : (a : ℤ) → le_z a a ≡ true
le_z-refl a = le-le_z a a (omega arith)

pub le_z-trans : (a b c : ℤ) → le_z a b ≡ true → le_z b c ≡ true → le_z a c ≡ true
le_z-trans a b c h k = le-le_z a c (omega (arith, le_z-le a b h, le_z-le b c k))

lt_z-le_z : (a b : ℤ) → lt_z a b ≡ true → le_z a b ≡ true
lt_z-le_z a b h = le-le_z a b (omega (arith, lt_z-lt a b h))

pub lt_z-le_z-trans : (a b c : ℤ) → lt_z a b ≡ true → le_z b c ≡ true → lt_z a c ≡ true
lt_z-le_z-trans a b c h k = lt-lt_z a c (omega (arith, lt_z-lt a b h, le_z-le b c k))

pub not-less : (a b : ℤ) → lt_z a b ≡ false → le_z b a ≡ true
not-less a b h = not-false (le_z b a) (sym (lt_z-not a b) ∙ h)

pub le_z-antisym : (a b : ℤ) → le_z a b ≡ true → le_z b a ≡ true → a ≡ b
le_z-antisym (pos a) (pos b) h k = ap pos (omega (arith, leb-true a b h, leb-true b a k))
le_z-antisym (pos a) (negsuc b) h k = clash h refl
le_z-antisym (negsuc a) (pos b) h k = clash k refl
le_z-antisym (negsuc a) (negsuc b) h k = ap negsuc (omega (arith, leb-true b a h, leb-true a b k))

pub le_z-total : (a b : ℤ) → le_z a b ≡ false → le_z b a ≡ true
le_z-total a b h = lt_z-le_z b a (lt_z-not b a ∙ ap not h)

-- ---- the order does not see a common factor

above-neg : (n : ℕ) → above (neg_ℤ (pos n)) ≡ 0
above-neg zero = refl
above-neg (suc n) = refl

under-neg : (n : ℕ) → under (neg_ℤ (pos n)) ≡ n
under-neg zero = refl
under-neg (suc n) = refl

pub above-scale : (a : ℤ) (n : ℕ) → above (a *ℤ pos n) ≡ above a * n
above-scale (pos a) n = refl
above-scale (negsuc a) n = above-neg (suc a * n) ∙ sym (zero-mul n)

pub under-scale : (a : ℤ) (n : ℕ) → under (a *ℤ pos n) ≡ under a * n
under-scale (pos a) n = sym (zero-mul n)
under-scale (negsuc a) n = under-neg (suc a * n)

pub le_z-times : (a b : ℤ) (n : ℕ) → le_z a b ≡ true → le_z (a *ℤ pos n) (b *ℤ pos n) ≡ true
le_z-times a b n h =
    le-le_z (a *ℤ pos n) (b *ℤ pos n) (omega (arith, mul-le-mul_right n (le_z-le a b h), above-scale a n, under-scale a n, above-scale b n, under-scale b n))

pub le_z-scale : (a b : ℤ) (n : ℕ) → 0 < n → le_z (a *ℤ pos n) (b *ℤ pos n) ≡ le_z a b
le_z-scale a b n k =
    same_answer (le_z (a *ℤ pos n) (b *ℤ pos n)) (le_z a b)
    (λ h. le-le_z a b (le_of_mul-le-mul_right {k = n} (omega (arith, le_z-le (a *ℤ pos n) (b *ℤ pos n) h, above-scale a n, under-scale a n, above-scale b n, under-scale b n)) k))
    (le_z-times a b n)

pub lt_z-scale : (a b : ℤ) (n : ℕ) → 0 < n → lt_z (a *ℤ pos n) (b *ℤ pos n) ≡ lt_z a b
lt_z-scale a b n k = rw (lt_z-not (a *ℤ pos n) (b *ℤ pos n), le_z-scale b a n k) (sym (lt_z-not a b))

scale-neg : (k n : ℕ) → neg_ℤ (pos k) *ℤ pos n ≡ neg_ℤ (pos (k * n))
scale-neg zero n = rw zero-mul
scale-neg (suc k) n = refl

pub scale-scale : (a : ℤ) (m n : ℕ) → a *ℤ pos m *ℤ pos n ≡ a *ℤ pos (m * n)
scale-scale (pos a) m n = rw mul_assoc
scale-scale (negsuc a) m n = scale-neg (suc a * m) n ∙ rw mul_assoc

-- ---- a natural number added

pub sum-parts : (x : ℤ) (r : ℕ) → above (x +ℤ pos r) + under x ≡ above x + r + under (x +ℤ pos r)
sum-parts (pos x) r = omega arith
sum-parts (negsuc x) r = go (ltb r (suc x)) refl
  where
    go : (t : Bool) → ltb r (suc x) ≡ t
        → above (cond t (negsuc (suc x - suc r)) (pos (r - suc x))) + suc x ≡ 0 + r + under (cond t (negsuc (suc x - suc r)) (pos (r - suc x)))
    go true e = omega (arith, ltb-true r (suc x) e)
    go false e = omega (arith, ltb-false r (suc x) e)

-- ---- the order of sums

add_parts : (x y : ℤ) → above (x +ℤ y) + under x + under y ≡ above x + above y + under (x +ℤ y)
add_parts x (pos r) = omega (arith, sum-parts x r)
add_parts (pos x) (negsuc r) = omega (arith, sum-parts (negsuc r) x)
add_parts (negsuc x) (negsuc r) = omega arith

pub le_z-plus : (a b c : ℤ) → le_z a b ≡ true → le_z (a +ℤ c) (b +ℤ c) ≡ true
le_z-plus a b c h = le-le_z (a +ℤ c) (b +ℤ c) (omega (arith, le_z-le a b h, add_parts a c, add_parts b c))
