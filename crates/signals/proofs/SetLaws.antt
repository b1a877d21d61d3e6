-- Laws of signal sets: presence, inclusion and overlap are the code's bitwise and.
use Prim.Native.Nat.{ℕ, zero, suc, ◌+◌, ◌-◌, ◌*◌, ◌/◌, ◌%◌, ◌^◌, ◌<◌, min}
use mathlib.Core.Bool.{Bool, true, false, not, ◌&&◌, ◌||◌, and_comm}
use mathlib.Core.Path.{◌≡◌, refl, sym, ap, ap₂, ◌∙◌}
use native.Mathlib.Omega.{arith}
use native.Mathlib.Nat.{div-one, div-div-eq-div-mul, pow-succ', pow-suc}
use lib.Bits.{bit_and, and_step, and_zero_l, and_le_l}
use lib.Bits as bits
use lib.Dec.{eqb, leb}
use borrow.Author.Tests.{eq-eqb, ne_eqb, leb-true, leb-false}
use Rattle.arith.specs.Lists.{every, exists, below}
use Rattle.arith.proofs.EveryExists.{exists-same}
use Rattle.arith.proofs.Digits.{digits, two_digits}
use Rattle.arith.proofs.Tests.{not-and, every-low, exists-low}
use Rattle.signals.specs.Sets.{signals, is_set, present, inside, overlap}

pub present-zero : (a : ℕ) → present a 0 ≡ eqb (a % 2) 1
unfolding present
present-zero a = rw div-one refl

pub present-suc : (a s : ℕ) → present a (suc s) ≡ present (a / 2) s
unfolding present
present-suc a s = rw (div-div-eq-div-mul a 2 (2 ^ s), pow-succ' 2 s) refl

-- one binary digit in another, and two digits that are both one
digit-inside : (p q : ℕ) → p < 2 → q < 2 → (not (eqb p 1) || eqb q 1) ≡ eqb (min p q) p
digit-inside = two_digits (λ p q. (not (eqb p 1) || eqb q 1) ≡ eqb (min p q) p) refl refl refl refl

digit-both : (p q : ℕ) → p < 2 → q < 2 → (eqb p 1 && eqb q 1) ≡ not (eqb (min p q) 0)
digit-both = two_digits (λ p q. (eqb p 1 && eqb q 1) ≡ not (eqb (min p q) 0)) refl refl refl refl

-- for masks of n signals: each signal of a is in b where `a & b == a`
pub inside-below : (n a b : ℕ) → a < 2 ^ n → every (λ s. not (present a s) || present b s) (below n) ≡ eqb (bit_and a b) a
inside-below zero a b h =
    let z : a ≡ 0 = omega arith in
    sym (eq-eqb (bit_and a b) a (ap (λ (x : ℕ). bit_and x b) z ∙ and_zero_l b ∙ sym z))
inside-below (suc n) a b h =
    let hb : a / 2 < 2 ^ n = omega (arith, pow-suc 2 n) in
    let hd : a / 2 * 2 + a % 2 ≡ a = omega arith in
    every-low n (λ s. not (present a s) || present b s)
    ∙ simp (present-zero, present-suc, inside-below n (a / 2) (b / 2) hb)
    (ap (λ (t : Bool). t && eqb (bit_and (a / 2) (b / 2)) (a / 2)) (digit-inside (a % 2) (b % 2) (omega arith) (omega arith)))
    ∙ sym (digits 1 (bit_and (a / 2) (b / 2)) (a / 2) (min (a % 2) (b % 2)) (a % 2) (omega arith) (omega arith))
    ∙ ap₂ (λ (x y : ℕ). eqb x y) (sym (and_step a b)) hd

-- for masks of n signals: a and b share a signal where `a & b != 0`
pub overlap-below : (n a b : ℕ) → a < 2 ^ n → exists (λ s. present a s && present b s) (below n) ≡ not (eqb (bit_and a b) 0)
overlap-below zero a b h =
    let z : a ≡ 0 = omega arith in
    sym (ap not (eq-eqb (bit_and a b) 0 (ap (λ (x : ℕ). bit_and x b) z ∙ and_zero_l b)))
overlap-below (suc n) a b h =
    let hb : a / 2 < 2 ^ n = omega (arith, pow-suc 2 n) in
    exists-low n (λ s. present a s && present b s)
    ∙ simp (present-zero, present-suc, overlap-below n (a / 2) (b / 2) hb)
    (ap (λ (t : Bool). t || not (eqb (bit_and (a / 2) (b / 2)) 0)) (digit-both (a % 2) (b % 2) (omega arith) (omega arith)))
    ∙ sym (not-and (eqb (min (a % 2) (b % 2)) 0) (eqb (bit_and (a / 2) (b / 2)) 0))
    ∙ ap not (sym (digits 1 (bit_and (a / 2) (b / 2)) 0 (min (a % 2) (b % 2)) 0 (omega arith) (omega arith)))
    ∙ ap (λ (x : ℕ). not (eqb x 0)) (sym (and_step a b))

-- for masks of n signals: a has no signal that b lacks where `a & b == a`
pub none-lacking : (n a b : ℕ) → a < 2 ^ n → b < 2 ^ n → eqb (bit_and a (2 ^ n - 1 - b)) 0 ≡ eqb (bit_and a b) a
none-lacking zero a b ha hb =
    let z : a ≡ 0 = omega arith in
    eq-eqb (bit_and a (2 ^ 0 - 1 - b)) 0 (ap (λ (x : ℕ). bit_and x (2 ^ 0 - 1 - b)) z ∙ and_zero_l (2 ^ 0 - 1 - b))
    ∙ sym (eq-eqb (bit_and a b) a (ap (λ (x : ℕ). bit_and x b) z ∙ and_zero_l b ∙ sym z))
none-lacking (suc n) a b ha hb =
    let half : (2 ^ suc n - 1 - b) / 2 ≡ 2 ^ n - 1 - b / 2 = omega (arith, pow-suc 2 n) in
    let odd : (2 ^ suc n - 1 - b) % 2 ≡ 1 - b % 2 = omega (arith, pow-suc 2 n) in
    let hd : a / 2 * 2 + a % 2 ≡ a = omega arith in
    ap (λ (x : ℕ). eqb x 0) (and_step a (2 ^ suc n - 1 - b) ∙ ap₂ (λ (x y : ℕ). bit_and (a / 2) x * 2 + min (a % 2) y) half odd)
    ∙ digits 1 (bit_and (a / 2) (2 ^ n - 1 - b / 2)) 0 (min (a % 2) (1 - b % 2)) 0 (omega arith) (omega arith)
    ∙ ap₂ (λ (s t : Bool). s && t) (digit-lacking (a % 2) (b % 2) (omega arith) (omega arith))
    (none-lacking n (a / 2) (b / 2) (omega (arith, pow-suc 2 n)) (omega (arith, pow-suc 2 n)))
    ∙ sym (digits 1 (bit_and (a / 2) (b / 2)) (a / 2) (min (a % 2) (b % 2)) (a % 2) (omega arith) (omega arith))
    ∙ ap₂ (λ (x y : ℕ). eqb x y) (sym (and_step a b)) hd
  where
    digit-lacking : (p q : ℕ) → p < 2 → q < 2 → eqb (min p (1 - q)) 0 ≡ eqb (min p q) p
    digit-lacking = two_digits (λ p q. eqb (min p (1 - q)) 0 ≡ eqb (min p q) p) refl refl refl refl

-- a signal set lies inside another number: the code's `mask & set == mask`
pub inside-and : (mask set : ℕ) → mask < 2 ^ 16 → inside mask set ≡ eqb (bit_and mask set) mask
unfolding inside signals
inside-and mask set h = inside-below 16 mask set h

-- a number shares a signal with a signal set: the code's `mask & set != 0`
pub overlap-and : (mask set : ℕ) → set < 2 ^ 16 → overlap mask set ≡ not (eqb (bit_and mask set) 0)
unfolding overlap signals
overlap-and mask set h =
    exists-same (λ s. present mask s && present set s) (λ s. present set s && present mask s) signals (λ s m. and_comm (present mask s) (present set s))
    ∙ overlap-below 16 set mask h
    ∙ ap (λ (x : ℕ). not (eqb x 0)) (bits.and_comm set mask)

-- a number is a signal set and lies inside a signal set: the code's `mask & set == mask`
pub set-inside-and : (mask set : ℕ) → set < 2 ^ 16 → (is_set mask && inside mask set) ≡ eqb (bit_and mask set) mask
unfolding is_set
set-inside-and mask set h = go (leb mask 65535) refl
  where
    large : leb mask 65535 ≡ false → bit_and mask set ≡ mask → ⊥
    large e q = omega (arith, leb-false mask 65535 e, bits.and_comm mask set, and_le_l set mask)

    go : (b : Bool) → leb mask 65535 ≡ b → (b && inside mask set) ≡ eqb (bit_and mask set) mask
    go true e = inside-and mask set (omega (arith, leb-true mask 65535 e))
    go false e = sym (ne_eqb (bit_and mask set) mask (large e))
