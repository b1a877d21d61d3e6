-- Laws of the set of some signals: which are present in it, how large it is, and when it lies inside a set or shares a signal with one;
-- laws of one set inside another.
use Prim.Native.Nat.{ℕ, zero, suc, ◌+◌, ◌/◌, ◌%◌, ◌^◌, ◌≤◌, ◌<◌}
use mathlib.Core.Bool.{Bool, true, false, not, ◌&&◌, ◌||◌, not-or_self, or-false}
use mathlib.Core.List.{List, [], ◌∷◌, Memᴰ}
use mathlib.Core.Path.{◌≡◌, refl, sym, ap, ◌∙◌}
use native.Mathlib.Nat.{add-zero, pow-suc}
use native.Mathlib.Omega.{arith}
use lib.Bits as bits
use lib.Bits.{bit_and, and_le_r}
use lib.Dec.{eqb, eqb-zero-suc, eqb-suc-zero, eqb-suc-suc}
use lib.Pow.{pow_pos}
use borrow.Author.Tests.{eqb-true, eqb-false, eq-eqb, ne_eqb, leb-true}
use Rattle.arith.specs.Lists.{every, exists, below}
use Rattle.arith.specs.Members.{Each, Distinct}
use Rattle.arith.proofs.EveryExists.{exists-in, exists-out, every-all, every-same, exists-same}
use Rattle.arith.proofs.Below.{every-listed, exists-listed, every-below}
use Rattle.arith.proofs.Distinct.{is_in, each-absent}
use Rattle.arith.proofs.Members.{each_in, each-out, every-each, each-every}
use Rattle.arith.proofs.Tests.{clash, not_yes, and_left}
use Rattle.signals.specs.Sets.{signals, is_set, present, inside, overlap, size, is_pair, set_of}
use Rattle.signals.proofs.SetLaws.{present-zero, present-suc, inside-and, overlap-and}
use Rattle.signals.proofs.BitLaws.{present-none}

-- ---- one signal more

-- the lowest digit is not one
even : (m : ℕ) → present m 0 ≡ false → m % 2 ≡ 0
even m h = let n = eqb-false (m % 2) 1 (sym (present-zero m) ∙ h) in omega arith

present-more : (s m i : ℕ) → present m s ≡ false → present (2 ^ s + m) i ≡ (eqb s i || present m i)
present-more zero m zero h = present-zero (1 + m) ∙ eq-eqb ((1 + m) % 2) 1 (omega (arith, even m h))
present-more zero m (suc i) h =
    let e : (1 + m) / 2 ≡ m / 2 = omega (arith, even m h) in
    present-suc (1 + m) i ∙ rw (e, eqb-zero-suc i) (sym (present-suc m i))
present-more (suc s) m zero h =
    let e : (2 ^ suc s + m) % 2 ≡ m % 2 = omega (arith, pow-suc 2 s) in
    present-zero (2 ^ suc s + m) ∙ rw (e, eqb-suc-zero s) (sym (present-zero m))
present-more (suc s) m (suc i) h =
    let e : (2 ^ suc s + m) / 2 ≡ 2 ^ s + m / 2 = omega (arith, pow-suc 2 s) in
    present-suc (2 ^ suc s + m) i ∙ rw (e, eqb-suc-suc s i, present-suc m i) (present-more s (m / 2) i (sym (present-suc m s) ∙ h))

-- one signal alone
pub present-one : (s i : ℕ) → present (2 ^ s) i ≡ eqb s i
present-one s i =
    ap (λ (x : ℕ). present x i) (sym (add-zero (2 ^ s))) ∙ present-more s 0 i (present-none s)
    ∙ ap (λ (t : Bool). eqb s i || t) (present-none i) ∙ or-false (eqb s i)

below_more : (n s m : ℕ) → s < n → m < 2 ^ n → present m s ≡ false → 2 ^ s + m < 2 ^ n
below_more zero s m k l h = absurd (omega arith)
below_more (suc n) zero m k l h = omega (arith, pow-suc 2 n, even m h)
below_more (suc n) (suc s) m k l h =
    let i = below_more n s (m / 2) (omega arith) (omega (arith, pow-suc 2 n)) (sym (present-suc m s) ∙ h) in
    omega (arith, pow-suc 2 n, pow-suc 2 s)

-- ---- the set of some different signals

pub present-set : (ss : List ℕ) → Distinct ss → (i : ℕ) → present (set_of ss) i ≡ is_in i ss
unfolding set_of
present-set [] d i = present-none i
present-set (s ∷ ss) d i = present-more s (set_of ss) i (present-set ss d.1 s ∙ each-absent s ss d.0) ∙ ap (λ (t : Bool). eqb s i || t) (present-set ss d.1 i)

pub set_below : (n : ℕ) (ss : List ℕ) → Each (◌< n) ss → Distinct ss → set_of ss < 2 ^ n
unfolding set_of
set_below n [] b d = pow_pos n
set_below n (s ∷ ss) b d = below_more n s (set_of ss) b.0 (set_below n ss b.1 d.1) (present-set ss d.1 s ∙ each-absent s ss d.0)

module _ (ss : List ℕ) (b : Each (◌< 16) ss) (d : Distinct ss) (set : ℕ) where
  -- it lies inside a set where each of the signals is present
  pub inside-set : inside (set_of ss) set ≡ every (present set) ss
  unfolding inside signals
  inside-set =
      every-same (λ i. not (present (set_of ss) i) || present set i) (λ i. not (is_in i ss) || present set i) signals
      (λ i. ap (λ (t : Bool). not t || present set i) (present-set ss d i))
      ∙ every-listed (present set) 16 ss b

  -- it shares a signal with a set where some signal is present
  pub overlap-set : overlap (set_of ss) set ≡ exists (present set) ss
  unfolding overlap signals
  overlap-set =
      exists-same (λ i. present (set_of ss) i && present set i) (λ i. is_in i ss && present set i) signals
      (λ i m. ap (λ (t : Bool). t && present set i) (present-set ss d i))
      ∙ exists-listed (present set) 16 ss b

-- ---- one set inside another

-- a set lies inside itself
pub inside-self : (set : ℕ) → inside set set ≡ true
unfolding inside
inside-self set = every-all (λ s. not (present set s) || present set s) (λ s. not-or_self (present set s)) signals

-- each signal of a set that lies inside another is in the other
signal-there : (a b : ℕ) → inside a b ≡ true → {s : ℕ} → Memᴰ s signals → (not (present a s) || present b s) ≡ true
unfolding inside
signal-there a b h m =
    each-out (λ (s : ℕ). (not (present a s) || present b s) ≡ true) (each-every (λ s. not (present a s) || present b s) signals h) m

-- so it lies inside what the other lies inside
pub inside-then : (a b c : ℕ) → inside a b ≡ true → inside b c ≡ true → inside a c ≡ true
unfolding inside
inside-then a b c h k =
    every-each (λ s. not (present a s) || present c s) signals
    (each_in (λ (s : ℕ). (not (present a s) || present c s) ≡ true) signals (λ s m.
    through (present a s) (present b s) (present c s) (signal-there a b h m) (signal-there b c k m)))
  where
    through : (x y z : Bool) → (not x || y) ≡ true → (not y || z) ≡ true → (not x || z) ≡ true
    through false y z p q = refl
    through true true z p q = q
    through true false z p q = clash p refl

-- and what shares a signal with it shares one with the other
pub overlap-then : (a b c : ℕ) → overlap a b ≡ true → inside b c ≡ true → overlap a c ≡ true
unfolding overlap
overlap-then a b c h k =
    let (s, m, shared) = exists-out (λ s. present a s && present b s) signals h in
    exists-in (λ s. present a s && present c s) m (through (present a s) (present b s) (present c s) shared (signal-there b c k m))
  where
    through : (x y z : Bool) → (x && y) ≡ true → (not y || z) ≡ true → (x && z) ≡ true
    through false y z p q = p
    through true true z p q = q
    through true false z p q = clash p refl

module _ (mask set : ℕ) (small : mask ≤ 65535) (h : inside mask set ≡ true) where
  -- what both have is the one that lies inside
  shared-bits : bit_and mask set ≡ mask
  shared-bits = eqb-true _ _ (sym (inside-and mask set (omega arith)) ∙ h)

  -- it is no larger a number
  pub inside-le : mask ≤ set
  inside-le = omega (arith, shared-bits, and_le_r mask set)

  -- unless it is empty, the two share a signal
  pub inside-overlap : 0 < mask → overlap set mask ≡ true
  inside-overlap some =
      overlap-and set mask (omega arith)
      ∙ ap (λ (x : ℕ). not (eqb x 0)) (bits.and_comm set mask ∙ shared-bits)
      ∙ ap not (ne_eqb mask 0 (λ e. omega (arith, e)))

-- ---- pairs

-- every two signals are the same or a pair
all-pairs : every (λ a. every (λ b. eqb a b || is_pair (set_of (a ∷ b ∷ []))) (below 16)) (below 16) ≡ true
unfolding is_pair is_set size signals present set_of
all-pairs = refl

-- two different signals make a pair
pub two-signals : (a b : ℕ) → a < 16 → b < 16 → (a ≡ b → ⊥) → is_pair (set_of (a ∷ b ∷ [])) ≡ true
two-signals a b h k differ =
    let tried = every-below (λ y. eqb a y || is_pair (set_of (a ∷ y ∷ []))) 16 (every-below (λ x. every (λ y. eqb x y || is_pair (set_of (x ∷ y ∷ []))) (below 16)) 16 all-pairs a h) b k in
    sym (ap (λ (t : Bool). t || is_pair (set_of (a ∷ b ∷ []))) (ne_eqb a b differ)) ∙ tried

-- a pair is a signal set
pair-is-set : (mask : ℕ) → is_pair mask ≡ true → is_set mask ≡ true
unfolding is_pair
pair-is-set mask h = and_left (is_set mask) (eqb (size mask) 2) h

pub pair_small : (mask : ℕ) → is_pair mask ≡ true → mask ≤ 65535
unfolding is_set
pair_small mask h = leb-true mask 65535 (pair-is-set mask h)

no-signals : is_pair 0 ≡ false
unfolding is_pair is_set size signals present
no-signals = refl

-- no pair lies inside the empty set
pub pair-not-empty : (mask : ℕ) → is_pair mask ≡ true → inside mask 0 ≡ false
pair-not-empty mask h =
    not_yes (inside mask 0) (λ i.
    let none : mask ≡ 0 = omega (arith, inside-le mask 0 (pair_small mask h) i) in
    clash h (ap is_pair none ∙ no-signals))
