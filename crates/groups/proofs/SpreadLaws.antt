-- The masks in a table spread from signal to signal.
use Prim.Native.Nat.{ℕ, zero, suc, ◌+◌, ◌-◌, ◌*◌, ◌/◌, ◌%◌, ◌^◌, ◌≤◌, ◌<◌}
use mathlib.Core.Bool.{Bool, false, ◌||◌, or_self}
use mathlib.Core.List.{List, [], ◌∷◌}
use mathlib.Core.Logic.{⊎_elim}
use mathlib.Core.Path.{◌≡◌, refl, sym, ap, ap₂, subst, ◌∙◌}
use native.Mathlib.Omega.{arith}
use lib.Bits.{bit_and, bit_or}
use lib.Dec.{eqb}
use lib.ListN.{length, get_or, replicate}
use borrow.Author.Tests.{eqb-true}
use Rattle.arith.specs.Lists.{exists, every, below}
use Rattle.arith.specs.Tables.{Written}
use Rattle.arith.proofs.EveryExists.{exists-either}
use Rattle.arith.proofs.Below.{every-below}
use Rattle.arith.proofs.Order.{le-or-lt}
use Rattle.signals.specs.Sets.{present, inside}
use Rattle.signals.proofs.BitLaws.{present-or, present-none}
use Rattle.blocks.specs.Blocks.{WordOf, without}
use Rattle.blocks.proofs.BlockLaws.{without-less, without-twice, low-without, high-without}
use Rattle.rod.specs.Reading.{some_line}
use Rattle.rod.specs.Values.{AllSets}
use Rattle.groups.specs.Groups.{GroupOf, masks_from, tells, mask_reaches, Reached, Gathered, Spread}
use Rattle.groups.proofs.ReachLaws.{mask-more, mask-inside}

-- ---- one signal more

-- by words, for one of the six lowest signals
abbrev pub LowWord : ℕ → List ℕ → ℕ → ℕ → Type 0
LowWord s table k word = WordOf (λ j. present (get_or table k 0) j || present (get_or table k 0) (without s j)) word

pub low-spread : (s : ℕ) (table left : List ℕ) → s < 6 → length table ≡ 16 → Written (λ k. k) (LowWord s table) 16 table left → Spread s table left
unfolding tells
low-spread s table left small room w =
    record {
      room = w.room ∙ room;
      told = λ x h.
          let p = low-without s x small in
          w.told (x / 64) (omega arith) (x % 64) (omega arith)
          ∙ ap₂ (λ (k j : ℕ). present (get_or table (x / 64) 0) (x % 64) || present (get_or table k 0) j) (sym p.0) (sym p.1);
    }

-- by words, for one of the next four
abbrev pub HighWord : ℕ → List ℕ → ℕ → ℕ → Type 0
HighWord s table k word = WordOf (λ j. present (get_or table k 0) j || present (get_or table (without s k) 0) j) word

pub high-spread : (s : ℕ) (table left : List ℕ) → length table ≡ 16 → Written (λ k. k) (HighWord s table) 16 table left → Spread (6 + s) table left
unfolding tells
high-spread s table left room w =
    record {
      room = w.room ∙ room;
      told = λ x h.
          let p = high-without s x in
          w.told (x / 64) (omega arith) (x % 64) (omega arith)
          ∙ ap₂ (λ (k j : ℕ). present (get_or table (x / 64) 0) (x % 64) || present (get_or table k 0) j) (sym p.0) (sym p.1);
    }

-- by the signal that the code names
pub spread-by : (signal : ℕ) (table left : List ℕ) → 6 ≤ signal → Spread (6 + (signal - 6)) table left → Spread signal table left
spread-by signal table left h s = subst (λ (n : ℕ). Spread n table left) (back signal h) s
  where
    back : (n : ℕ) → 6 ≤ n → 6 + (n - 6) ≡ n
    back n l = omega arith

-- a block's number without a signal, by the code's `&`
block-without : (s k : ℕ) → s < 4 → k < 16 → k - bit_and k (2 ^ s) ≡ without s k
unfolding without
block-without s k hs hk = eqb-true _ _ (every-below (λ i. eqb (i - bit_and i (2 ^ s)) (without s i)) 16 (every-below (λ t. every (λ i. eqb (i - bit_and i (2 ^ t)) (without t i)) (below 16)) 4 refl s hs) k hk)

-- the next word, from what is in the table by now: the block without the signal has kept its bits
pub high_word : (s n weight : ℕ) (table left : List ℕ) → s < 4 → n < 16 → weight ≡ 2 ^ s → Written (λ k. k) (HighWord s table) n table left
    → HighWord s table n (bit_or (get_or left n 0) (get_or left (n - bit_and n weight) 0))
high_word s n weight table left hs hn e w j h =
    present-or (get_or left n 0) (get_or left (n - bit_and n weight) 0) j
    ∙ ap₂ (λ (x : ℕ) (t : Bool). present x j || t) (w.others n (λ k l e. omega arith))
    (ap (λ (k : ℕ). present (get_or left k 0) j) (ap (λ (x : ℕ). n - bit_and n x) e ∙ block-without s n hs hn) ∙ kept)
  where
    kept : present (get_or left (without s n) 0) j ≡ present (get_or table (without s n) 0) j
    kept =
        ⊎_elim (λ (l : n ≤ without s n). ap (λ (x : ℕ). present x j) (w.others (without s n) (λ k m e. omega arith)))
        (λ (l : without s n < n).
        w.told (without s n) l j h
        ∙ ap (λ (k : ℕ). present (get_or table (without s n) 0) j || present (get_or table k 0) j) (without-twice s n)
        ∙ or_self (present (get_or table (without s n) 0) j)) (le-or-lt n (without s n))

-- the masks reach one signal further
pub reached-more : (s : ℕ) (masks : List ℕ) (group : ℕ) (table left : List ℕ) → Reached s masks group table → Spread s table left → Reached (suc s) masks group left
reached-more s masks group table left r p =
    record {
      room = p.room;
      told = λ x h.
          p.told x h
          ∙ ap₂ (λ (a b : Bool). a || b) (r.told x h) (r.told (without s x) (omega (arith, without-less s x)))
          ∙ sym (exists-either (mask_reaches (suc s) group x) (mask_reaches s group x) (mask_reaches s group (without s x)) (mask-more s group x) masks);
    }

-- ---- from the empty table to all ten signals

-- block and bit of a set of the group
block_of : (n m : ℕ) → m < 64 → n ≡ (64 * n + m) / 64
block_of n m l = omega arith

bit-of : (n m : ℕ) → m < 64 → m ≡ (64 * n + m) % 64
bit-of n m l = omega arith

-- an empty table tells nothing
no_bits : (x : ℕ) → tells (replicate 16 0) x ≡ false
unfolding tells
no_bits x = ap (λ (w : ℕ). present w (x % 64)) (zeros 16 (x / 64)) ∙ present-none (x % 64)
  where
    zeros : (n i : ℕ) → ◌≡◌ {A = ℕ} (get_or (replicate n 0) i 0) 0
    zeros zero i = refl
    zeros (suc n) zero = refl
    zeros (suc n) (suc i) = zeros n i

pub reached-none : (ws : List ℕ) (from end group : ℕ) (table : List ℕ) → Gathered ws from end group (replicate 16 0) table
    → Reached 0 (masks_from ws from (end - from)) group table
reached-none ws from end group table g =
    record { room = g.room; told = λ x h. g.told x h ∙ ap (λ (t : Bool). t || exists (mask_reaches 0 group x) (masks_from ws from (end - from))) (no_bits x) }

-- no record at all
pub none_inside : (ws : List ℕ) (from end group : ℕ) → end ≤ from → GroupOf (some_line (masks_from ws from (end - from))) group (replicate 16 0)
unfolding some_line tells masks_from
none_inside ws from end group h k b j l =
    ap₂ (λ (n m : ℕ). present (get_or (replicate 16 0) n 0) m) (block_of k j l) (bit-of k j l) ∙ no_bits (64 * k + j)
    ∙ sym (ap (λ (n : ℕ). exists (λ m. inside m (64 * (16 * group + k) + j)) (masks_from ws from n)) no_more)
  where
    no_more : end - from ≡ 0
    no_more = omega arith

-- all ten signals
pub reached-all : (masks : List ℕ) (group : ℕ) (table : List ℕ) → group ≤ 63 → AllSets masks → Reached 10 masks group table → GroupOf (some_line masks) group table
unfolding some_line tells
reached-all masks group table within sets r k b j h =
    ap₂ (λ (n m : ℕ). present (get_or table n 0) m) (block_of k j h) (bit-of k j h)
    ∙ r.told (64 * k + j) (omega arith)
    ∙ go masks sets
  where
    place : (g n m : ℕ) → 1024 * g + (64 * n + m) ≡ 64 * (16 * g + n) + m
    place g n m = omega arith

    go : (ms : List ℕ) → AllSets ms → exists (mask_reaches 10 group (64 * k + j)) ms ≡ exists (λ m. inside m (64 * (16 * group + k) + j)) ms
    go [] s = refl
    go (m ∷ ms) s =
        ap₂ (λ (a c : Bool). a || c)
        (mask-inside group (64 * k + j) m s.0 within (omega arith) ∙ ap (inside m) (place group k j)) (go ms s.1)
