-- Laws of the bits of a number: what `&`, `|`, `^`, `!` and `<<` leave in each, which is the lowest, and how many are one.
use Prim.Native.Nat.{ℕ, zero, suc, ◌+◌, ◌-◌, ◌*◌, ◌/◌, ◌%◌, ◌^◌, ◌<◌, min, max}
use mathlib.Core.Bool.{Bool, true, false, not, cond, ◌&&◌, ◌||◌, beq}
use mathlib.Core.Path.{◌≡◌, refl, sym, ap, ap₂, ◌∙◌}
use native.Mathlib.Omega.{arith}
use native.Mathlib.Nat.{add-zero, pow-suc, mod-lt}
use lib.Bits.{bit_and, bit_or, bit_xor, and_step, or_step, xor_step, differ}
use lib.Count.{count_trailing_zeros, under, ones, ones_step, ones_cat}
use lib.Dec.{eqb}
use lib.Pow.{pow_pos, low, field, mod-pow-add, mod-mod-pow, shl-shr, shr-shr}
use borrow.Author.Tests.{eq-eqb, ne_eqb}
use Rattle.arith.specs.Lists.{count_below}
use Rattle.arith.proofs.Counts.{count-zero, count_same, count-first}
use Rattle.arith.proofs.Digits.{two_digits}
use Rattle.signals.specs.Sets.{present}
use Rattle.signals.proofs.SetLaws.{present-zero, present-suc}

-- an operation that takes its operands digit by digit, as `digit` does, takes each bit as `test` does
module _ (op digit : ℕ → ℕ → ℕ) (test : Bool → Bool → Bool) (step : (a b : ℕ) → op a b ≡ op (a / 2) (b / 2) * 2 + digit (a % 2) (b % 2))
    (told : (p q : ℕ) → p < 2 → q < 2 → (digit p q < 2) × (eqb (digit p q) 1 ≡ test (eqb p 1) (eqb q 1))) where
  by_digits : (a b j : ℕ) → present (op a b) j ≡ test (present a j) (present b j)
  by_digits a b zero =
      let d = told (a % 2) (b % 2) (omega arith) (omega arith) in
      let e : op a b % 2 ≡ digit (a % 2) (b % 2) = omega (arith, step a b, d.0) in
      present-zero (op a b) ∙ ap (λ (x : ℕ). eqb x 1) e ∙ d.1 ∙ ap₂ test (sym (present-zero a)) (sym (present-zero b))
  by_digits a b (suc j) =
      let d = told (a % 2) (b % 2) (omega arith) (omega arith) in
      let e : op a b / 2 ≡ op (a / 2) (b / 2) = omega (arith, step a b, d.0) in
      present-suc (op a b) j ∙ ap (λ (x : ℕ). present x j) e ∙ by_digits (a / 2) (b / 2) j ∙ ap₂ test (sym (present-suc a j)) (sym (present-suc b j))

pub present-and : (a b j : ℕ) → present (bit_and a b) j ≡ (present a j && present b j)
present-and =
    by_digits bit_and min (λ x y. x && y) and_step
    (two_digits (λ p q. (min p q < 2) × (eqb (min p q) 1 ≡ (eqb p 1 && eqb q 1))) (omega arith, refl) (omega arith, refl) (omega arith, refl) (omega arith, refl))

pub present-or : (a b j : ℕ) → present (bit_or a b) j ≡ (present a j || present b j)
present-or =
    by_digits bit_or max (λ x y. x || y) or_step
    (two_digits (λ p q. (max p q < 2) × (eqb (max p q) 1 ≡ (eqb p 1 || eqb q 1))) (omega arith, refl) (omega arith, refl) (omega arith, refl) (omega arith, refl))

pub present-xor : (a b j : ℕ) → present (bit_xor a b) j ≡ not (beq (present a j) (present b j))
present-xor =
    by_digits bit_xor differ (λ x y. not (beq x y)) xor_step
    (two_digits (λ p q. (differ p q < 2) × (eqb (differ p q) 1 ≡ not (beq (eqb p 1) (eqb q 1)))) (omega arith, refl) (omega arith, refl) (omega arith, refl) (omega arith, refl))

-- all bits turned over, of k
digit_not : (p : ℕ) → p < 2 → eqb (1 - p) 1 ≡ not (eqb p 1)
digit_not p h = two_digits (λ q r. eqb (1 - q) 1 ≡ not (eqb q 1)) refl refl refl refl p 0 h (omega arith)

pub present-not : (k a j : ℕ) → a < 2 ^ k → j < k → present (2 ^ k - 1 - a) j ≡ not (present a j)
present-not zero a j h l = absurd (omega arith)
present-not (suc k) a zero h l =
    let e : (2 ^ suc k - 1 - a) % 2 ≡ 1 - a % 2 = omega (arith, pow-suc 2 k) in
    present-zero (2 ^ suc k - 1 - a) ∙ ap (λ (x : ℕ). eqb x 1) e ∙ digit_not (a % 2) (omega arith) ∙ ap not (sym (present-zero a))
present-not (suc k) a (suc j) h l =
    let e : (2 ^ suc k - 1 - a) / 2 ≡ 2 ^ k - 1 - a / 2 = omega (arith, pow-suc 2 k) in
    present-suc (2 ^ suc k - 1 - a) j ∙ ap (λ (x : ℕ). present x j) e ∙ present-not k (a / 2) j (omega (arith, pow-suc 2 k)) (omega arith)
    ∙ ap not (sym (present-suc a j))

pub present-none : (j : ℕ) → present 0 j ≡ false
unfolding present
present-none zero = refl
present-none (suc j) = present-suc 0 j ∙ present-none j

-- every one of k bits
pub present-all : (k j : ℕ) → j < k → present (2 ^ k - 1) j ≡ true
present-all k j h = ap (λ (x : ℕ). present x j) (whole (2 ^ k)) ∙ present-not k 0 j (pow_pos k) h ∙ ap not (present-none j)
  where
    whole : (n : ℕ) → n - 1 ≡ n - 1 - 0
    whole n = omega arith

-- the k lowest bits are those of the remainder, the others those of the quotient
pub present-low : (k a j : ℕ) → j < k → present (a % 2 ^ k) j ≡ present a j
unfolding present
present-low k a j h = ap (λ (x : ℕ). eqb x 1) (go (k - j - 1) (omega arith))
  where
    go : (more : ℕ) → k ≡ more + 1 + j → a % 2 ^ k / 2 ^ j % 2 ≡ a / 2 ^ j % 2
    go more e = ap (λ (n : ℕ). a % 2 ^ n / 2 ^ j % 2) e ∙ ap (λ (x : ℕ). x % 2) (field a (more + 1) j) ∙ mod-mod-pow (a / 2 ^ j) more 1

pub present-high : (k a j : ℕ) → present a (k + j) ≡ present (a / 2 ^ k) j
unfolding present
present-high k a j = ap (λ (x : ℕ). eqb (x % 2) 1) (sym (shr-shr a k j))

-- of a number moved up by n within k bits, those from n on are its own
pub present-shift : (k n a j : ℕ) → n + j < k → present (a * 2 ^ n % 2 ^ k) (n + j) ≡ present a j
present-shift k n a j h = present-low k (a * 2 ^ n) (n + j) h ∙ present-high n (a * 2 ^ n) j ∙ ap (λ (x : ℕ). present x j) (shl-shr a n)

-- ---- the lowest bit

-- this bit is one, and none below it
pub record LowestBit (word r : ℕ) : Type 0 where
  pub here : present word r ≡ true
  pub none : (i : ℕ) → i < r → present word i ≡ false

pub lowest-bit : (k word : ℕ) → 0 < word → word < 2 ^ k → (count_trailing_zeros k word < k) × LowestBit word (count_trailing_zeros k word)
unfolding count_trailing_zeros
lowest-bit zero word p h = absurd (omega arith)
lowest-bit (suc k) word p h = go (word % 2) refl (λ (e : word % 2 ≡ 0). lowest-bit k (word / 2) (omega arith) (omega (arith, pow-suc 2 k)))
  where
    none_below : word % 2 ≡ 0 → (t : ℕ) → LowestBit (word / 2) t → (i : ℕ) → i < suc t → present word i ≡ false
    none_below e t l zero h = present-zero word ∙ ne_eqb (word % 2) 1 (λ q. omega arith)
    none_below e t l (suc i) h = present-suc word i ∙ l.none i (omega arith)

    go : (d : ℕ) → word % 2 ≡ d → (word % 2 ≡ 0 → (count_trailing_zeros k (word / 2) < k) × LowestBit (word / 2) (count_trailing_zeros k (word / 2)))
        → (under d (count_trailing_zeros k (word / 2)) < suc k) × LowestBit word (under d (count_trailing_zeros k (word / 2)))
    go zero e half =
        let t = count_trailing_zeros k (word / 2) in
        (omega (arith, (half e).0), record { here = present-suc word t ∙ (half e).1.here; none = none_below e t (half e).1 })
    go (suc d) e half = (omega arith, record { here = present-zero word ∙ eq-eqb (word % 2) 1 (omega arith); none = λ i l. absurd (omega arith) })

-- ---- how many bits are one

-- of a number below 2 to the k: as many as its members below k
pub ones-count : (k word : ℕ) → word < 2 ^ k → ones word ≡ count_below k (present word)
unfolding ones
ones-count zero word h = let z : word ≡ 0 = omega arith in ap ones z ∙ sym (count-zero (present word))
ones-count (suc k) word h =
    ones_step word
    ∙ ap₂ (λ (a b : ℕ). a + b) (digit (word % 2) (omega arith)) (ones-count k (word / 2) (omega (arith, pow-suc 2 k)))
    ∙ ap₂ (λ (t : Bool) (b : ℕ). cond t 1 0 + b) (sym (present-zero word)) (count_same (present (word / 2)) (λ i. present word (suc i)) k (λ i l. sym (present-suc word i)))
    ∙ sym (count-first (present word) k)
  where
    digit : (d : ℕ) → d < 2 → d ≡ cond (eqb d 1) 1 0
    digit zero l = refl
    digit (suc zero) l = refl
    digit (suc (suc d)) l = absurd (omega arith)

-- of a number moved up by n within k + n bits: as many as its members below k
pub ones-shift : (k n word : ℕ) → ones (word * 2 ^ n % 2 ^ (k + n)) ≡ count_below k (present word)
unfolding ones
ones-shift k n word =
    ap ones (mod-pow-add (word * 2 ^ n) k n)
    ∙ ap₂ (λ (a b : ℕ). ones (a % 2 ^ k * 2 ^ n + b)) (shl-shr word n) (ap (λ (x : ℕ). x % 2 ^ n) (sym (add-zero (word * 2 ^ n))) ∙ low word n (pow_pos n))
    ∙ ones_cat n (word % 2 ^ k) 0 (pow_pos n)
    ∙ add-zero (ones (word % 2 ^ k))
    ∙ ones-count k (word % 2 ^ k) (mod-lt word (pow_pos k))
    ∙ count_same (present (word % 2 ^ k)) (present word) k (λ i l. present-low k word i l)
