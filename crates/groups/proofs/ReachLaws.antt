-- Masks that reach a set: one signal more, and all ten.
use Prim.Native.Nat.{ℕ, zero, suc, ◌+◌, ◌*◌, ◌/◌, ◌%◌, ◌^◌, ◌≤◌, ◌<◌}
use mathlib.Core.Bool.{Bool, not, ◌&&◌, ◌||◌, and_comm, and-or_distrib_left}
use mathlib.Core.Path.{◌≡◌, refl, sym, ap, ap₂, ◌∙◌}
use native.Mathlib.Nat.{pow-suc}
use native.Mathlib.Omega.{arith}
use lib.Bits.{bit_and, and_block}
use lib.Bits as bits
use lib.Dec.{eqb}
use borrow.Author.Tests.{eq-eqb}
use Rattle.arith.specs.Lists.{every, below}
use Rattle.arith.proofs.Digits.{digits, two_digits}
use Rattle.arith.proofs.Tests.{every-low}
use Rattle.signals.specs.Sets.{present, inside}
use Rattle.signals.proofs.SetLaws.{present-zero, present-suc, inside-and, inside-below}
use Rattle.blocks.specs.Blocks.{without}
use Rattle.blocks.proofs.BlockLaws.{without-zero, without-suc}
use Rattle.groups.specs.Groups.{reaches, mask_reaches}

-- ---- one signal more

-- the lowest: a digit lies inside another where it is the same, or zero
lowest-digit : (p q : ℕ) → p < 2 → q < 2 → (not (eqb p 1) || eqb q 1) ≡ (eqb p q || eqb p 0)
lowest-digit = two_digits (λ p q. (not (eqb p 1) || eqb q 1) ≡ (eqb p q || eqb p 0)) refl refl refl refl

reach-lowest : (a b : ℕ) → ((not (present a 0) || present b 0) && eqb (a / 2) (b / 2)) ≡ (eqb a b || eqb a (without 0 b))
reach-lowest a b =
    ap₂ (λ (s t : Bool). (not s || t) && eqb (a / 2) (b / 2)) (present-zero a) (present-zero b)
    ∙ ap (λ (t : Bool). t && eqb (a / 2) (b / 2)) (lowest-digit (a % 2) (b % 2) (omega arith) (omega arith))
    ∙ and_comm (eqb (a % 2) (b % 2) || eqb (a % 2) 0) (eqb (a / 2) (b / 2))
    ∙ and-or_distrib_left (eqb (a / 2) (b / 2)) (eqb (a % 2) (b % 2)) (eqb (a % 2) 0)
    ∙ ap₂ (λ (s t : Bool). s || t) (whole (b % 2) (omega arith) ∙ ap (eqb a) (split b)) (whole 0 (omega arith) ∙ ap (eqb a) (even b ∙ sym (without-zero b)))
  where
    split : (n : ℕ) → n / 2 * 2 + n % 2 ≡ n
    split n = omega arith

    even : (n : ℕ) → n / 2 * 2 + 0 ≡ n / 2 * 2
    even n = omega arith

    whole : (q : ℕ) → q < 2 → (eqb (a / 2) (b / 2) && eqb (a % 2) q) ≡ eqb a (b / 2 * 2 + q)
    whole q h =
        and_comm (eqb (a / 2) (b / 2)) (eqb (a % 2) q) ∙ sym (digits 1 (a / 2) (b / 2) (a % 2) q (omega arith) h)
        ∙ ap (λ (n : ℕ). eqb n (b / 2 * 2 + q)) (split a)

reach-more : (s a b : ℕ) → reaches (suc s) a b ≡ (reaches s a b || reaches s a (without s b))
unfolding reaches
reach-more zero a b = reach-lowest a b
reach-more (suc s) a b =
    ap (λ (t : Bool). (not (present a 0) || present b 0) && t) (reach-more s (a / 2) (b / 2))
    ∙ and-or_distrib_left (not (present a 0) || present b 0) (reaches s (a / 2) (b / 2)) (reaches s (a / 2) (without s (b / 2)))
    ∙ ap (λ (t : Bool). ((not (present a 0) || present b 0) && reaches s (a / 2) (b / 2)) || t)
    (ap₂ (λ (t : Bool) (n : ℕ). (not (present a 0) || t) && reaches s (a / 2) n) (sym kept) (sym half))
  where
    kept : present (without (suc s) b) 0 ≡ present b 0
    kept =
        let same : without (suc s) b % 2 ≡ b % 2 = omega (arith, without-suc s b) in
        present-zero (without (suc s) b) ∙ ap (λ (n : ℕ). eqb n 1) same ∙ sym (present-zero b)

    half : without (suc s) b / 2 ≡ without s (b / 2)
    half = omega (arith, without-suc s b)

-- ---- all of n

reach-all : (n a b : ℕ) → a < 2 ^ n → b < 2 ^ n → reaches n a b ≡ every (λ s. not (present a s) || present b s) (below n)
unfolding reaches
reach-all zero a b ha hb = eq-eqb a b (omega arith)
reach-all (suc n) a b ha hb =
    ap (λ (t : Bool). (not (present a 0) || present b 0) && t)
    (reach-all n (a / 2) (b / 2) (omega (arith, pow-suc 2 n)) (omega (arith, pow-suc 2 n)))
    ∙ sym (every-low n (λ s. not (present a s) || present b s) ∙ simp present-suc refl)

-- ---- a mask

pub mask-more : (s group x mask : ℕ) → mask_reaches (suc s) group x mask ≡ (mask_reaches s group x mask || mask_reaches s group (without s x) mask)
unfolding mask_reaches
mask-more s group x mask =
    ap (λ (t : Bool). inside (mask / 1024) group && t) (reach-more s (mask % 1024) x)
    ∙ and-or_distrib_left (inside (mask / 1024) group) (reaches s (mask % 1024) x) (reaches s (mask % 1024) (without s x))

-- spread over ten signals it is at each set that it lies inside
pub mask-inside : (group x mask : ℕ) → mask ≤ 65535 → group ≤ 63 → x < 1024 → mask_reaches 10 group x mask ≡ inside mask (1024 * group + x)
unfolding mask_reaches
mask-inside group x mask small within h =
    ap₂ (λ (s t : Bool). s && t) (inside-and (mask / 1024) group (omega arith))
    (reach-all 10 (mask % 1024) x (omega arith) h ∙ inside-below 10 (mask % 1024) x (omega arith))
    ∙ and_comm (eqb (bit_and (mask / 1024) group) (mask / 1024)) (eqb (bit_and (mask % 1024) x) (mask % 1024))
    ∙ sym (digits 10 (bit_and (mask / 1024) group) (mask / 1024) (bit_and (mask % 1024) x) (mask % 1024) (omega (arith, bits.and_le_r (mask % 1024) x)) (omega arith))
    ∙ ap₂ eqb (sym (and_block 10 (mask / 1024) group (mask % 1024) x (omega arith) h) ∙ ap₂ bit_and (sym (split mask)) (sym (turned group x))) (sym (split mask))
    ∙ sym (inside-and mask (1024 * group + x) (omega arith))
  where
    split : (m : ℕ) → m ≡ m / 1024 * 1024 + m % 1024
    split m = omega arith

    turned : (g y : ℕ) → 1024 * g + y ≡ g * 1024 + y
    turned g y = omega arith
