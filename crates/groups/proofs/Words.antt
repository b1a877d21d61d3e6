-- Words bit by bit: a policy's, a join's, and an overlap that is the same in every block.
use Prim.Native.Nat.{ℕ, ◌+◌, ◌-◌, ◌*◌, ◌/◌, ◌%◌, ◌^◌, ◌≤◌, ◌<◌}
use mathlib.Core.Bool.{Bool, true, false, not, cond, ◌&&◌, ◌||◌, beq, and-false}
use mathlib.Core.List.{List, []}
use mathlib.Core.Logic.{⊎_elim}
use mathlib.Core.Path.{◌≡◌, refl, sym, ap, ap₂, subst, ◌∙◌}
use native.Mathlib.Nat.{add-zero}
use native.Mathlib.Omega.{arith}
use lib.Bits.{bit_and, bit_or, bit_xor, and_block, and_zero_l, and_zero_r}
use lib.Bits as bits
use lib.Dec.{eqb}
use lib.ListN.{length, get_or, replicate, get_or-replicate, set, length-set}
use lib.Seq.{get_or-set_same, get_or-set_other}
use borrow.Author.Tests.{eqb-true, eqb-false, eq-eqb, ne_eqb}
use Rattle.arith.specs.Tables.{Written}
use Rattle.arith.proofs.Tables.{written-more, written_all}
use Rattle.arith.proofs.Digits.{digits}
use Rattle.arith.proofs.Tests.{clash, or_cases}
use Rattle.signals.specs.Sets.{present, overlap}
use Rattle.signals.proofs.SetLaws.{overlap-and}
use Rattle.signals.proofs.BitLaws.{present-and, present-or, present-xor, present-not}
use Rattle.blocks.specs.Blocks.{WordOf, BlockOf}
use Rattle.blocks.proofs.BlockLaws.{shares}
use Rattle.layout.specs.Records.{Join}
use Rattle.layout.specs.Nodes.{ListedPolicy}
use Rattle.rod.specs.Reading.{some_line, policy_value, joined}
use Rattle.rod.specs.Values.{join_meaning}
use Rattle.groups.specs.Groups.{group_set, GroupOf}
use Rattle.groups.specs.Values.{SixteenTables, value_word, policy_bit, PolicyWord, WordsPut, JoinedWord, JoinPut}

-- a policy's word, by the code's `^`, `&`, `|` and `!`
pub policy-bits : (shared found turn still : ℕ) → shared < 2 ^ 64
    → WordOf (policy_bit shared found turn still) (bit_or (bit_and (bit_xor found turn) shared) (bit_and still (2 ^ 64 - 1 - shared)))
policy-bits shared found turn still small j h =
    present-or (bit_and (bit_xor found turn) shared) (bit_and still (2 ^ 64 - 1 - shared)) j
    ∙ ap₂ (λ (s t : Bool). s || t)
    (present-and (bit_xor found turn) shared j ∙ ap (λ (t : Bool). t && present shared j) (present-xor found turn j))
    (present-and still (2 ^ 64 - 1 - shared) j ∙ ap (λ (t : Bool). present still j && t) (present-not 64 shared j small h))
    ∙ go (present shared j) (not (beq (present found j) (present turn j))) (present still j)
  where
    go : (o v s : Bool) → ((v && o) || (s && not o)) ≡ cond o v s
    go true true s = refl
    go true false true = refl
    go true false false = refl
    go false true true = refl
    go false true false = refl
    go false false true = refl
    go false false false = refl

-- tables of zeros
pub no-values : SixteenTables (replicate 16 (replicate 16 0))
no-values = record { room = refl; tables = λ n h. ap length (get_or-replicate 16 n (replicate 16 0) [] h) }

-- two words joined
module _ (a b : ℕ) (o : Bool) where
  pub words-or : o ≡ true → WordOf (λ j. joined (join_meaning o) (present a j) (present b j)) (bit_or a b)
  unfolding joined
  words-or e j h = rw e (present-or a b j)

  pub words-and : o ≡ false → WordOf (λ j. joined (join_meaning o) (present a j) (present b j)) (bit_and a b)
  unfolding joined
  words-and e j h = rw e (present-and a b j)

-- of two values the words before this one are joined, where the first has stood
pub record Joining (o : Join) (height : ℕ) (values left : List (List ℕ)) (n : ℕ) : Type 0 where
  pub room : length left ≡ length values
  pub words : Written (λ k. k) (JoinedWord o height values) n (get_or values height []) (get_or left height [])
  pub others : (m : ℕ) → (m ≡ height → ⊥) → get_or left m [] ≡ get_or values m []

module _ (o : Join) (height : ℕ) (values : List (List ℕ)) where
  module _ (left : List (List ℕ)) (n : ℕ) (t : SixteenTables values) (h : height + 1 < 16) (g : Joining o height values left n) where
    pub joining-more : n < 16 → (next : ℕ) → next ≡ height + 1 → (word : ℕ)
        → WordOf (λ j. joined o (present (value_word left height n) j) (present (value_word left next n) j)) word
        → Joining o height values (set left height (set (get_or left height []) n word)) (n + 1)
    joining-more b next e word w =
        record {
          room = length-set left height table ∙ g.room;
          words = subst (Written (λ k. k) (JoinedWord o height values) (n + 1) (get_or values height [])) (sym here)
              (written-more _ _ _ n _ g.words (omega (arith, t.tables height (omega arith))) (λ k l d. omega arith) word told);
          others = λ m d. get_or-set_other left height m table [] d ∙ g.others m d;
        }
      where
        table : List ℕ
        table = set (get_or left height []) n word

        here : get_or (set left height table) height [] ≡ table
        here = get_or-set_same left height table [] (omega (arith, g.room, t.room))

        second : get_or left next [] ≡ get_or values (height + 1) []
        second = g.others next (λ d. omega arith) ∙ ap (λ (m : ℕ). get_or values m []) e

        told : JoinedWord o height values n word
        told j l =
            w j l
            ∙ ap₂ (λ (x : ℕ) (xs : List ℕ). joined o (present x j) (present (get_or xs n 0) j)) (g.words.others n (λ k l e. omega arith)) second

    pub joining-all : n ≡ 16 → JoinPut o height values left
    joining-all e =
        let whole = written_all _ _ _ 16 n _ e g.words in
        record { room = record { room = g.room ∙ t.room; tables = each }; told = whole.told; others = g.others }
      where
        each : (m : ℕ) → m < 16 → length (get_or left m []) ≡ 16
        each m b = go (eqb m height) refl
          where
            go : (t : Bool) → eqb m height ≡ t → length (get_or left m []) ≡ 16
            go true q = rw (eqb-true m height q) (g.words.room ∙ t.tables height (omega arith))
            go false q = rw (g.others m (eqb-false m height q)) (t.tables m b)

-- ---- what a policy says

-- in every block of the group the mask overlaps the same sets as in the first
abbrev EvenOverlap : ℕ → ℕ → Type 0
EvenOverlap mask group = (k : ℕ) → k < 16 → (j : ℕ) → j < 64 → overlap mask (group_set group k j) ≡ overlap mask (64 * (16 * group) + j)

-- turned over by all sets, or by none
turned_bit : (f t : Bool) → not (beq f t) ≡ cond t (not f) f
turned_bit true true = refl
turned_bit true false = refl
turned_bit false true = refl
turned_bit false false = refl

-- from where some of its lines lies inside, and all sets or none for its flags
module _ (p : ListedPolicy) (group : ℕ) (found : List ℕ) (turn still : ℕ) (f : GroupOf (some_line p.lines) group found)
    (t : WordOf (λ j. p.turned) turn) (q : WordOf (λ j. p.quiet) still) where
  pub policy-told : (Overlap : ℕ → ℕ → Type 0) (table : List ℕ) → ((k : ℕ) → k < 16 → (shared : ℕ) → Overlap k shared → BlockOf (overlap p.mask) (16 * group + k) shared)
      → WordsPut Overlap found turn still table → (k : ℕ) → k < 16 → PolicyWord p group k (get_or table k 0)
  unfolding policy_value
  policy-told Overlap table o w k b j h =
      let at = w.told k b in
      at.2 j h ∙ rw (o k b at.0 at.1 j h, f k b j h, t j h, q j h)
      (ap (λ (v : Bool). cond (overlap p.mask (group_set group k j)) v p.quiet) (turned_bit (some_line p.lines (group_set group k j)) p.turned))

-- the word of an overlap that is the same in every block is each block's
pub even-block : (mask group shared : ℕ) → EvenOverlap mask group → BlockOf (overlap mask) (16 * group) shared → (k : ℕ) → k < 16 → BlockOf (overlap mask) (16 * group + k) shared
even-block mask group shared e o k b j h = o j h ∙ sym (e k b j h)

-- ---- an overlap that is the same in every block

module _ (mask group : ℕ) (small : mask ≤ 65535) (within : group ≤ 63) where
  -- by the six lowest signals, those of the blocks and those of the groups
  by_parts : (k : ℕ) → k < 16 → (j : ℕ) → j < 64
      → overlap mask (group_set group k j) ≡ not (eqb (bit_and (mask % 64) j) 0 && (eqb (bit_and (mask / 64 % 16) k) 0 && eqb (bit_and (mask / 1024) group) 0))
  by_parts k b j h =
      shares mask (16 * group + k) j small (omega arith) h
      ∙ ap (λ (t : Bool). not (eqb (bit_and (mask % 64) j) 0 && t))
      (ap (λ (x : ℕ). eqb x 0) (ap₂ bit_and (split mask) (turn group k) ∙ and_block 4 (mask / 1024) group (mask / 64 % 16) k (omega arith) b)
      ∙ digits 4 (bit_and (mask / 1024) group) 0 (bit_and (mask / 64 % 16) k) 0 (omega (arith, bits.and_le_r (mask / 64 % 16) k)) (omega arith))
    where
      split : (m : ℕ) → m / 64 ≡ m / 1024 * 16 + m / 64 % 16
      split m = omega arith

      turn : (g i : ℕ) → 16 * g + i ≡ g * 16 + i
      turn g i = omega arith

  first_block : (j : ℕ) → j < 64 → overlap mask (64 * (16 * group) + j) ≡ not (eqb (bit_and (mask % 64) j) 0 && eqb (bit_and (mask / 1024) group) 0)
  first_block j h =
      ap (λ (x : ℕ). overlap mask (64 * x + j)) (sym (add-zero (16 * group))) ∙ by_parts 0 (omega arith) j h
      ∙ ap (λ (x : ℕ). not (eqb (bit_and (mask % 64) j) 0 && (eqb x 0 && eqb (bit_and (mask / 1024) group) 0))) (and_zero_r (mask / 64 % 16))

  even-low : mask / 64 % 16 ≡ 0 → EvenOverlap mask group
  even-low e k b j h =
      by_parts k b j h
      ∙ ap (λ (x : ℕ). not (eqb (bit_and (mask % 64) j) 0 && (eqb x 0 && eqb (bit_and (mask / 1024) group) 0))) (ap (λ (x : ℕ). bit_and x k) e ∙ and_zero_l k)
      ∙ sym (first_block j h)

  even-high : (bit_and (mask / 1024) group ≡ 0 → ⊥) → EvenOverlap mask group
  even-high n k b j h =
      by_parts k b j h
      ∙ ap (λ (t : Bool). not (eqb (bit_and (mask % 64) j) 0 && (eqb (bit_and (mask / 64 % 16) k) 0 && t))) other
      ∙ ap (λ (t : Bool). not (eqb (bit_and (mask % 64) j) 0 && t)) (and-false (eqb (bit_and (mask / 64 % 16) k) 0))
      ∙ sym (first_block j h ∙ ap (λ (t : Bool). not (eqb (bit_and (mask % 64) j) 0 && t)) other)
    where
      other : eqb (bit_and (mask / 1024) group) 0 ≡ false
      other = ne_eqb (bit_and (mask / 1024) group) 0 n

  -- by the code's test
  pub even-by : (b : Bool) → b ≡ (eqb (mask / 64 % 16) 0 || overlap (mask / 1024) group) → b ≡ true → EvenOverlap mask group
  even-by b e t =
      ⊎_elim (λ h. even-low (eqb-true (mask / 64 % 16) 0 h))
      (λ h. even-high (λ z. clash h (overlap-and (mask / 1024) group (omega arith) ∙ ap not (eq-eqb (bit_and (mask / 1024) group) 0 z))))
      (or_cases (eqb (mask / 64 % 16) 0) (overlap (mask / 1024) group) (sym e ∙ t))
