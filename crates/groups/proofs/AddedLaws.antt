-- A mask put into a table, as a set of the group.
use Prim.Native.Nat.{ℕ, ◌+◌, ◌-◌, ◌*◌, ◌/◌, ◌%◌, ◌^◌, ◌≤◌, ◌<◌}
use mathlib.Core.Bool.{Bool, true, false, cond, ◌&&◌, ◌||◌, and-true, and-false, or-false}
use mathlib.Core.List.{List}
use mathlib.Core.Path.{◌≡◌, refl, sym, ap, ap₂, ◌∙◌}
use native.Mathlib.Nat.{add-zero}
use native.Mathlib.Omega.{arith}
use lib.Bits.{bit_and, bit_or, and_block, and_zero_r}
use lib.Dec.{eqb}
use lib.ListN.{length, get_or, set, length-set}
use lib.Seq.{get_or-set_same, get_or-set_other}
use borrow.Author.Tests.{eqb-true, eqb-false}
use Rattle.arith.proofs.Digits.{digits}
use Rattle.signals.specs.Sets.{present, inside}
use Rattle.signals.proofs.BitLaws.{present-or, present-none}
use Rattle.signals.proofs.SetLaws.{inside-and, none-lacking}
use Rattle.signals.proofs.SetOfLaws.{present-one}
use Rattle.groups.specs.Groups.{tells, reaches, mask_reaches, Added}

-- the mask's highest signals are all the group's, by the code's test
pub within-test : (mask group : ℕ) → mask ≤ 65535 → group ≤ 63 → eqb (bit_and mask ((63 - group) * 1024)) 0 ≡ inside (mask / 1024) group
within-test mask group small h =
    ap (λ (x : ℕ). eqb x 0)
    (ap₂ bit_and (split mask) (sym (add-zero ((63 - group) * 1024))) ∙ and_block 10 (mask / 1024) (63 - group) (mask % 1024) 0 (omega arith) (omega arith)
    ∙ ap (λ (x : ℕ). bit_and (mask / 1024) (63 - group) * 1024 + x) (and_zero_r (mask % 1024)))
    ∙ digits 10 (bit_and (mask / 1024) (63 - group)) 0 0 0 (omega arith) (omega arith)
    ∙ none-lacking 6 (mask / 1024) group (omega arith) (omega arith)
    ∙ sym (inside-and (mask / 1024) group (omega arith))
  where
    split : (m : ℕ) → m ≡ m / 1024 * 1024 + m % 1024
    split m = omega arith

-- set x of the group is the mask's own, by block and bit
own-set : (mask x : ℕ) → x < 1024 → eqb (mask % 1024) x ≡ (eqb (mask % 64) (x % 64) && eqb (mask / 64 % 16) (x / 64))
own-set mask x h = ap₂ eqb (split mask) (whole x) ∙ digits 6 (mask / 64 % 16) (x / 64) (mask % 64) (x % 64) (omega arith) (omega arith)
  where
    split : (m : ℕ) → m % 1024 ≡ m / 64 % 16 * 64 + m % 64
    split m = omega arith

    whole : (n : ℕ) → n ≡ n / 64 * 64 + n % 64
    whole n = omega arith

module _ (mask group : ℕ) (table : List ℕ) (room : length table ≡ 16) where
  -- the mask's six highest signals are all the group's
  abbrev high : Bool
  high = inside (mask / 1024) group

  -- the mask's own block in the group
  abbrev own : ℕ
  own = mask / 64 % 16

  pub mask-added : (word : ℕ) → word ≡ cond (inside (mask / 1024) group) (2 ^ (mask % 64)) 0
      → Added mask group table (set table (mask / 64 % 16) (bit_or (get_or table (mask / 64 % 16) 0) word))
  unfolding tells mask_reaches reaches
  mask-added word e =
      record {
        room = length-set table own (bit_or (get_or table own 0) word) ∙ room;
        told = λ x h. go x (eqb own (x / 64)) refl ∙ ap (λ (t : Bool). present (get_or table (x / 64) 0) (x % 64) || (high && t)) (sym (own-set mask x h));
      }
    where
      -- a bit of the word
      bit-of : (t : Bool) (j : ℕ) → present (cond t (2 ^ (mask % 64)) 0) j ≡ (t && eqb (mask % 64) j)
      bit-of true j = present-one (mask % 64) j
      bit-of false j = present-none j

      go : (x : ℕ) (t : Bool) → eqb own (x / 64) ≡ t
          → present (get_or (set table own (bit_or (get_or table own 0) word)) (x / 64) 0) (x % 64)
          ≡ (present (get_or table (x / 64) 0) (x % 64) || (high && (eqb (mask % 64) (x % 64) && eqb own (x / 64))))
      go x true q =
          let o : own ≡ x / 64 = eqb-true own (x / 64) q in
          ap (λ (k : ℕ). present (get_or (set table own (bit_or (get_or table own 0) word)) k 0) (x % 64)) (sym o)
          ∙ ap (λ (w : ℕ). present w (x % 64)) (get_or-set_same table own (bit_or (get_or table own 0) word) 0 (omega (arith, room)))
          ∙ present-or (get_or table own 0) word (x % 64)
          ∙ ap₂ (λ (k : ℕ) (t : Bool). present (get_or table k 0) (x % 64) || t) o
          (ap (λ (w : ℕ). present w (x % 64)) e ∙ bit-of high (x % 64)
          ∙ ap (λ (t : Bool). high && t) (sym (ap (λ (t : Bool). eqb (mask % 64) (x % 64) && t) q ∙ and-true (eqb (mask % 64) (x % 64)))))
      go x false q =
          ap (λ (w : ℕ). present w (x % 64)) (get_or-set_other table own (x / 64) (bit_or (get_or table own 0) word) 0 (λ o. eqb-false own (x / 64) q (sym o)))
          ∙ sym (or-false (present (get_or table (x / 64) 0) (x % 64)))
          ∙ ap (λ (t : Bool). present (get_or table (x / 64) 0) (x % 64) || t)
          (sym (ap (λ (t : Bool). high && (eqb (mask % 64) (x % 64) && t)) q ∙ ap (λ (t : Bool). high && t) (and-false (eqb (mask % 64) (x % 64))) ∙ and-false high))

  pub mask-left : inside (mask / 1024) group ≡ false → Added mask group table table
  unfolding mask_reaches
  mask-left e =
      record { room = room; told = λ x h. sym (or-false (tells table x)) ∙ ap (λ (t : Bool). tells table x || t) (sym (ap (λ (t : Bool). t && reaches 0 (mask % 1024) x) e)) }
