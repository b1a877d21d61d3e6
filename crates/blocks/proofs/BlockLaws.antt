-- Laws of words that tell one thing of each set of a block.
use Prim.Native.Nat.{ℕ, zero, suc, ◌+◌, ◌-◌, ◌*◌, ◌/◌, ◌%◌, ◌^◌, ◌≤◌, ◌<◌}
use mathlib.Core.Bool.{Bool, true, false, not, ◌&&◌, ◌||◌, beq, and-true, and-false, or_self, or-false}
use mathlib.Core.Logic.{⊎_elim}
use mathlib.Core.Path.{◌≡◌, refl, sym, ap, ap₂, subst, ◌∙◌}
use native.Mathlib.Nat.{zero-add, div-one, pow-suc}
use native.Mathlib.Numerals.{add-one}
use native.Mathlib.Omega.{arith}
use lib.Bits.{bit_and, bit_or, and_block, and_mask}
use lib.Bits as bits
use lib.Dec.{eqb}
use lib.Pow.{pow-add, shr_lt}
use borrow.Author.Tests.{eqb-true, eqb-false, eq-eqb, ne_eqb}
use Rattle.arith.specs.Lists.{every, exists, below}
use Rattle.arith.proofs.Below.{every-below}
use Rattle.arith.proofs.Digits.{digits}
use Rattle.arith.proofs.Order.{le-or-lt}
use Rattle.arith.proofs.Tests.{beq_same}
use Rattle.signals.specs.Sets.{present, overlap}
use Rattle.signals.proofs.SetLaws.{present-zero, present-suc, overlap-and, overlap-below}
use Rattle.signals.proofs.BitLaws.{present-and, present-or, present-none, present-low, present-high, present-shift}
use Rattle.blocks.specs.Blocks.{WordOf, without}

-- ---- the patterns of the six lowest signals

-- by a computed test of all 64 bits
pub having-signal : (word s signal : ℕ) → every (λ j. beq (present word j) (present j s)) (below 64) ≡ true → signal ≡ s → WordOf (λ j. present j signal) word
having-signal word s signal e h j l = beq_same _ _ (every-below (λ i. beq (present word i) (present i s)) 64 e j l) ∙ ap (present j) (sym h)

-- ---- one signal spread

-- a set that has the signal, and one that has not
module _ (s set : ℕ) where
  with-signal : present set s ≡ true → 2 ^ s + without s set ≡ set
  unfolding present without
  with-signal e = go (set / 2 ^ s % 2) one large
    where
      one : set / 2 ^ s % 2 ≡ 1
      one = eqb-true _ _ e

      large : 2 ^ s ≤ set
      large = ⊎_elim (λ (l : 2 ^ s ≤ set). l) (λ (l : set < 2 ^ s). absurd (omega (arith, one, shr_lt 0 s (subst (λ (x : ℕ). set < 2 ^ x) (sym (zero-add s)) l)))) (le-or-lt (2 ^ s) set)

      go : (digit : ℕ) → digit ≡ 1 → 2 ^ s ≤ set → 2 ^ s + (set - digit * 2 ^ s) ≡ set
      go digit d l = rw d (omega arith)

  without-signal : present set s ≡ false → without s set ≡ set
  unfolding present without
  without-signal e = let n = eqb-false (set / 2 ^ s % 2) 1 e in go (set / 2 ^ s % 2) (omega arith)
    where
      go : (digit : ℕ) → digit ≡ 0 → set - digit * 2 ^ s ≡ set
      go digit d = rw d (omega arith)

-- the lowest signal, and the others by the rest of the set
pub without-zero : (set : ℕ) → without 0 set ≡ set / 2 * 2
unfolding without
without-zero set = rw div-one (omega arith)

pub without-suc : (s set : ℕ) → without (suc s) set ≡ without s (set / 2) * 2 + set % 2
without-suc s set = go (present (set / 2) s) refl
  where
    go : (t : Bool) → present (set / 2) s ≡ t → without (suc s) set ≡ without s (set / 2) * 2 + set % 2
    go true e = omega (arith, pow-suc 2 s, with-signal (suc s) set (present-suc set s ∙ e), with-signal s (set / 2) e)
    go false e = omega (arith, without-signal (suc s) set (present-suc set s ∙ e), without-signal s (set / 2) e)

-- it has not the signal
gone : (t set : ℕ) → present (without t set) t ≡ false
gone zero set = present-zero (without 0 set) ∙ ne_eqb (without 0 set % 2) 1 (λ e. omega (arith, without-zero set, e))
gone (suc t) set =
    let half : without (suc t) set / 2 ≡ without t (set / 2) = omega (arith, without-suc t set) in
    present-suc (without (suc t) set) t ∙ ap (λ (x : ℕ). present x t) half ∙ gone t (set / 2)

-- it is no larger, and without the signal twice is without it
module _ (s set : ℕ) where
  pub without-less : without s set ≤ set
  without-less = go (present set s) refl
    where
      go : (t : Bool) → present set s ≡ t → without s set ≤ set
      go true e = omega (arith, with-signal s set e)
      go false e = omega (arith, without-signal s set e)

  pub without-twice : without s (without s set) ≡ without s set
  without-twice = without-signal s (without s set) (gone s set)

-- a set's low and high signals, without one of the low
module _ (s set : ℕ) (low : s < 6) where
  pub low-without : (without s set / 64 ≡ set / 64) × (without s set % 64 ≡ without s (set % 64))
  low-without = go (present set s) refl
    where
      go : (t : Bool) → present set s ≡ t → (without s set / 64 ≡ set / 64) × (without s set % 64 ≡ without s (set % 64))
      go true e =
          let w = with-signal s set e in
          let v = with-signal s (set % 64) (present-low 6 set s low ∙ e) in
          (omega arith, omega arith)
      go false e =
          let w = without-signal s set e in
          let v = without-signal s (set % 64) (present-low 6 set s low ∙ e) in
          (omega arith, omega arith)

-- and without one of the high
pub high-without : (s set : ℕ) → (without (6 + s) set / 64 ≡ without s (set / 64)) × (without (6 + s) set % 64 ≡ set % 64)
high-without s set = go (present (set / 64) s) refl
  where
    go : (t : Bool) → present (set / 64) s ≡ t → (without (6 + s) set / 64 ≡ without s (set / 64)) × (without (6 + s) set % 64 ≡ set % 64)
    go true e =
        let p : 2 ^ (6 + s) ≡ 64 * 2 ^ s = pow-add 2 6 s in
        let w = with-signal (6 + s) set (present-high 6 set s ∙ e) in
        let v = with-signal s (set / 64) e in
        (omega arith, omega arith)
    go false e =
        let w = without-signal (6 + s) set (present-high 6 set s ∙ e) in
        let v = without-signal s (set / 64) e in
        (omega arith, omega arith)

-- by the sets that have the signal
pub spread-word : (word s shift having : ℕ) → shift ≡ 2 ^ s → WordOf (λ j. present j s) having
    → WordOf (λ j. present word j || present word (without s j)) (bit_or word (bit_and (word * 2 ^ shift % 2 ^ 64) having))
spread-word word s shift having e w j h =
    present-or word (bit_and (word * 2 ^ shift % 2 ^ 64) having) j
    ∙ ap (λ (t : Bool). present word j || t) (present-and (word * 2 ^ shift % 2 ^ 64) having j ∙ ap (λ (t : Bool). present (word * 2 ^ shift % 2 ^ 64) j && t) (w j h))
    ∙ go (present j s) refl
  where
    moved : present j s ≡ true → present (word * 2 ^ shift % 2 ^ 64) j ≡ present word (without s j)
    moved t =
        let place : shift + without s j ≡ j = omega (arith, e, with-signal s j t) in
        ap (present (word * 2 ^ shift % 2 ^ 64)) (sym place) ∙ present-shift 64 shift word (without s j) (omega arith)

    go : (t : Bool) → present j s ≡ t → (present word j || (present (word * 2 ^ shift % 2 ^ 64) j && t)) ≡ (present word j || present word (without s j))
    go true q = ap (λ (t : Bool). present word j || t) (and-true (present (word * 2 ^ shift % 2 ^ 64) j) ∙ moved q)
    go false q =
        ap (λ (t : Bool). present word j || t) (and-false (present (word * 2 ^ shift % 2 ^ 64) j)) ∙ or-false (present word j)
        ∙ sym (ap (λ (x : ℕ). present word j || present word x) (without-signal s j q) ∙ or_self (present word j))

-- ---- the sets that share a signal with a mask

-- one signal of a mask, by the code's test
module _ (low signal : ℕ) where
  bit-of : bit_and (low / 2 ^ signal) 1 ≡ low / 2 ^ signal % 2
  bit-of = and_mask (low / 2 ^ signal) 1

  pub sharing-where : bit_and (low / 2 ^ signal) 1 ≡ 1 → (word : ℕ) → WordOf (λ j. present j signal) word → WordOf (λ j. present low signal && present j signal) word
  unfolding present
  sharing-where e word w j h = rw (eq-eqb (low / 2 ^ signal % 2) 1 (sym bit-of ∙ e)) (w j h)

  lacks-signal : (bit_and (low / 2 ^ signal) 1 ≡ 1 → ⊥) → present low signal ≡ false
  unfolding present
  lacks-signal n = ne_eqb (low / 2 ^ signal % 2) 1 (λ e. n (bit-of ∙ e))

  pub sharing-nowhere : (bit_and (low / 2 ^ signal) 1 ≡ 1 → ⊥) → WordOf (λ j. present low signal && present j signal) 0
  sharing-nowhere n j h = present-none j ∙ sym (ap (λ (t : Bool). t && present j signal) (lacks-signal n))

-- one signal more
pub overlap-more : (low n a b : ℕ) → WordOf (λ j. present low n && present j n) a → WordOf (λ j. exists (λ s. present low s && present j s) (below n)) b
    → WordOf (λ j. exists (λ s. present low s && present j s) (below (n + 1))) (bit_or a b)
overlap-more low n a b wa wb j h =
    present-or a b j ∙ ap₂ (λ (x y : Bool). x || y) (wa j h) (wb j h) ∙ sym (ap (λ (m : ℕ). exists (λ s. present low s && present j s) (below m)) (add-one n))

-- all six
pub overlap-done : (low word n : ℕ) → low < 64 → n ≡ 6 → WordOf (λ j. exists (λ s. present low s && present j s) (below n)) word → WordOf (overlap low) word
overlap-done low word n small all w j h =
    w j h ∙ ap (λ (x : ℕ). exists (λ s. present low s && present j s) (below x)) all ∙ overlap-below 6 low j small ∙ sym (overlap-and low j (omega arith))

-- in a block, by the test of the higher signals
module _ (mask block j : ℕ) (small : mask ≤ 65535) (within : block ≤ 1023) (h : j < 64) where
  pub shares : overlap mask (64 * block + j) ≡ not (eqb (bit_and (mask % 64) j) 0 && eqb (bit_and (mask / 64) block) 0)
  shares =
      overlap-and mask (64 * block + j) (omega arith)
      ∙ ap (λ (x : ℕ). not (eqb x 0)) (ap₂ bit_and (split mask) (turned block j) ∙ and_block 6 (mask / 64) block (mask % 64) j (omega arith) h)
      ∙ ap not (digits 6 (bit_and (mask / 64) block) 0 (bit_and (mask % 64) j) 0 (omega (arith, bits.and_le_r (mask % 64) j)) (omega arith))
    where
      split : (m : ℕ) → m ≡ m / 64 * 64 + m % 64
      split m = omega arith

      turned : (b i : ℕ) → 64 * b + i ≡ b * 64 + i
      turned b i = omega arith

  pub overlap-low : bit_and (mask / 64) block ≡ 0 → overlap mask (64 * block + j) ≡ overlap (mask % 64) j
  overlap-low e =
      shares ∙ ap (λ (t : Bool). not (eqb (bit_and (mask % 64) j) 0 && t)) (eq-eqb (bit_and (mask / 64) block) 0 e)
      ∙ ap not (and-true (eqb (bit_and (mask % 64) j) 0)) ∙ sym (overlap-and (mask % 64) j (omega arith))

  pub overlap-always : (bit_and (mask / 64) block ≡ 0 → ⊥) → overlap mask (64 * block + j) ≡ true
  overlap-always n =
      shares ∙ ap (λ (t : Bool). not (eqb (bit_and (mask % 64) j) 0 && t)) (ne_eqb (bit_and (mask / 64) block) 0 n) ∙ ap not (and-false (eqb (bit_and (mask % 64) j) 0))
