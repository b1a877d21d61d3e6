-- The checks' words and tables, and their answers by the verdicts, the lowest sets and how many were judged.
use Prim.Native.Nat.{ℕ, zero, suc, ◌+◌, ◌-◌, ◌*◌, ◌^◌, ◌<◌}
use mathlib.Core.Bool.{Bool, true, false, not, cond, ◌&&◌, beq, not-not}
use mathlib.Core.List.{List}
use mathlib.Core.Logic.{◌↔◌, ◌⊎◌, inl, inr, ⊎_elim}
use mathlib.Core.Option.{Option, none, some}
use mathlib.Core.Path.{◌≡◌, refl, sym, ap, ap₂, ◌∙◌}
use native.Mathlib.Omega.{arith}
use lib.Bits.{bit_and, bit_xor}
use lib.Dec.{eqb}
use lib.ListN.{get_or, replicate, get_or-replicate}
use borrow.Author.Tests.{ne_eqb}
use Rattle.answers.specs.Answers.{result, refused}
use Rattle.arith.specs.Lists.{count_below}
use Rattle.arith.proofs.Tests.{clash}
use Rattle.signals.specs.Sets.{present}
use Rattle.signals.proofs.BitLaws.{present-and, present-xor, present-not}
use Rattle.blocks.specs.Blocks.{WordOf}
use Rattle.groups.specs.Groups.{GroupOf}
use Rattle.layout.specs.Judgement.{verdict}
use Rattle.rod.specs.Reading.{says}
use Rattle.checks.specs.Checks.{permitted, gives, lowest_set, Choice, choice, choice_of, judged_end, judged_sets, chosen, first, second, alike, differ, declined, comparison, comparison_of, examined, differ_at}
use Rattle.checks.specs.Walking.{chosen_by, apart_bit, GroupApart}
use Rattle.checks.proofs.Search.{lowest-zero, LowestIs, lowest-is}
use Rattle.checks.proofs.Pairs.{permitted-zero}

-- ---- words

-- where two words differ, and neither bars
pub apart-bits : (barred also one two : ℕ) → barred < 2 ^ 64 → also < 2 ^ 64
    → WordOf (apart_bit barred also one two) (bit_and (bit_and (2 ^ 64 - 1 - barred) (2 ^ 64 - 1 - also)) (bit_xor one two))
apart-bits barred also one two small less j h =
    present-and (bit_and (2 ^ 64 - 1 - barred) (2 ^ 64 - 1 - also)) (bit_xor one two) j
    ∙ ap₂ (λ (s t : Bool). s && t)
    (present-and (2 ^ 64 - 1 - barred) (2 ^ 64 - 1 - also) j ∙ ap₂ (λ (s t : Bool). s && t) (present-not 64 barred j small h) (present-not 64 also j less h))
    (present-xor one two j)

-- ---- the tables of a group

-- what the empty set gives is told by the first group
pub empty-told : (ws : List ℕ) (group : ℕ) (values : List ℕ) (before : Bool) → GroupOf (says ws) group values → (0 < group → before ≡ says ws 0)
    → cond (eqb group 0) (present (get_or values 0 0) 0) before ≡ says ws 0
empty-told ws zero values before g kept = g 0 (omega arith) 0 (omega arith)
empty-told ws (suc n) values before g kept = rw (ne_eqb (suc n) 0 (λ e. omega arith)) (kept (omega arith))

-- where the listing does not give what the empty set gives
pub other-group : (ws : List ℕ) (b : Bool) → b ≡ says ws 0 → (group : ℕ) (barred values : List ℕ) (word : ℕ)
    → GroupOf (λ set. not (permitted ws set)) group barred → GroupOf (says ws) group values → WordOf (λ j. b) word
    → GroupApart (gives ws (not (says ws 0))) group barred barred values (replicate 16 word)
other-group ws b e group barred values word p r w k l j h =
    rw (p k l j h, r k l j h, get_or-replicate 16 k word 0 l, w j h ∙ e) (go (says ws 0))
  where
    set : ℕ
    set = 64 * (16 * group + k) + j

    not_yes : (p s : Bool) → (not (not p) && not (not p) && not (beq s true)) ≡ (p && not s)
    not_yes true true = refl
    not_yes true false = refl
    not_yes false s = refl

    not-no : (p s : Bool) → (not (not p) && not (not p) && not (beq s false)) ≡ (p && s)
    not-no true true = refl
    not-no true false = refl
    not-no false s = refl

    go : (b : Bool) → (not (not (permitted ws set)) && not (not (permitted ws set)) && not (beq (says ws set) b)) ≡ gives ws (not b) set
    go true = not_yes (permitted ws set) (says ws set)
    go false = not-no (permitted ws set) (says ws set)

-- where the two listings differ
pub differ-group : (one two : List ℕ) (group : ℕ) (barred also firsts seconds : List ℕ)
    → GroupOf (λ set. not (permitted one set)) group barred → GroupOf (λ set. not (permitted two set)) group also
    → GroupOf (says one) group firsts → GroupOf (says two) group seconds → GroupApart (differ_at one two) group barred also firsts seconds
unfolding differ_at
differ-group one two group barred also firsts seconds p q r s k l j h =
    rw (p k l j h, q k l j h, r k l j h, s k l j h, not-not (permitted one (64 * (16 * group + k) + j)), not-not (permitted two (64 * (16 * group + k) + j))) refl

-- ---- the choice check

-- below which set the other answer was sought
abbrev sought_to : Option ℕ → ℕ
sought_to (some set) = set + 1
sought_to none = 65536

-- the sets are judged as far as the other answer is sought
yes-first : (other : Option ℕ) → sought_to other ≡ judged_end (choice_of (some 0) other)
unfolding judged_end choice_of
yes-first (some set) = omega arith
yes-first none = refl

no-first : (other : Option ℕ) → sought_to other ≡ judged_end (choice_of other (some 0))
unfolding judged_end choice_of
no-first (some set) = omega arith
no-first none = refl

module _ (ws : List ℕ) where
  answered : verdict ws ≡ result tt → (y n : Option ℕ) → lowest_set (gives ws true) ≡ y → lowest_set (gives ws false) ≡ n → choice ws ≡ result (choice_of y n)
  unfolding choice
  answered v y n e f = rw (v, e, f) refl

  counted : (c : Choice) → choice ws ≡ result c → (j end : ℕ) → j ≡ count_below end (permitted ws) → end ≡ judged_end c
      → result (record { choice = c; judged = j }) ≡ chosen ws
  unfolding chosen judged_sets
  counted c e j end f g = rw (e, f, g) refl

  sought : (b : Bool) → b ≡ says ws 0 → {other : Option ℕ} → other ≡ lowest_set (gives ws (not (says ws 0))) → other ≡ lowest_set (gives ws (not b))
  sought b e o = o ∙ ap (λ (t : Bool). lowest_set (gives ws (not t))) (sym e)

  -- of what the empty set gives it is the lowest set, since it has no pair
  pub chosen-by : verdict ws ≡ result tt → (b : Bool) → b ≡ says ws 0 → (other : Option ℕ) → other ≡ lowest_set (gives ws (not (says ws 0)))
      → (j : ℕ) → j ≡ count_below (sought_to other) (permitted ws) → chosen_by b other j ≡ chosen ws
  chosen-by v true e other o j h =
      let empty-gives = lowest-zero (gives ws true) (rw (permitted-zero ws v, ← e) refl) in
      counted (choice_of (some 0) other) (answered v (some 0) other empty-gives (sym (sought true e o))) j (sought_to other) h (yes-first other)
  chosen-by v false e other o j h =
      let empty-gives = lowest-zero (gives ws false) (rw (permitted-zero ws v, ← e) refl) in
      counted (choice_of other (some 0)) (answered v other (some 0) (sym (sought false e o)) empty-gives) j (sought_to other) h (no-first other)

  pub choice-declined : (number value : ℕ) → verdict ws ≡ refused number value → refused number value ≡ chosen ws
  unfolding chosen choice
  choice-declined number value v = rw v refl

-- ---- the comparison

module _ (one two : List ℕ) where
  pub alike_all : verdict one ≡ result tt → verdict two ≡ result tt → lowest_set (differ_at one two) ≡ none → alike ≡ comparison one two
  unfolding comparison examined comparison_of
  alike_all v w e = rw (v, w, e) refl

  pub differ-first : verdict one ≡ result tt → verdict two ≡ result tt → (s : ℕ) → lowest_set (differ_at one two) ≡ some s → true ≡ says one s
      → differ s first ≡ comparison one two
  unfolding comparison examined comparison_of
  differ-first v w s e r = rw (v, w, e, ← r) refl

  pub differ-second : verdict one ≡ result tt → verdict two ≡ result tt → (s : ℕ) → lowest_set (differ_at one two) ≡ some s → false ≡ says one s
      → differ s second ≡ comparison one two
  unfolding comparison examined comparison_of
  differ-second v w s e r = rw (v, w, e, ← r) refl

  pub first-declined : (number value : ℕ) → verdict one ≡ refused number value → declined first number value ≡ comparison one two
  unfolding comparison examined
  first-declined number value v = rw v refl

  pub second-declined : verdict one ≡ result tt → (number value : ℕ) → verdict two ≡ refused number value → declined second number value ≡ comparison one two
  unfolding comparison examined
  second-declined v number value w = rw (v, w) refl

-- ---- what the comparison of two sound listings tells

module _ (one two : List ℕ) (v : verdict one ≡ result tt) (w : verdict two ≡ result tt) where
  -- it says "alike" and they differ on no set, or it names the lowest set where they differ, and which says yes there
  pub comparison-tells : ((comparison one two ≡ alike) × LowestIs (differ_at one two) none)
      ⊎ ((set : ℕ) × (comparison one two ≡ differ set (cond (says one set) first second)) × LowestIs (differ_at one two) (some set))
  unfolding comparison examined comparison_of
  comparison-tells = go (lowest_set (differ_at one two)) (rw (v, w) refl) (lowest-is (differ_at one two))
    where
      go : (found : Option ℕ) → comparison one two ≡ comparison_of found one → LowestIs (differ_at one two) found
          → ((comparison one two ≡ alike) × LowestIs (differ_at one two) none)
          ⊎ ((set : ℕ) × (comparison one two ≡ differ set (cond (says one set) first second)) × LowestIs (differ_at one two) (some set))
      go none c is = inl (c, is)
      go (some set) c is = inr (set, c, is)

  -- so it says "alike" exactly if they differ on none
  pub alike-tells : (comparison one two ≡ alike) ↔ LowestIs (differ_at one two) none
  alike-tells =
      ⊎_elim (λ (c, is). (λ e. is, λ none. c))
      (λ (set, c, is). (λ e. let z : ◌≡◌ {A = ℕ} 0 1 = cc in absurd (omega arith), λ none. clash is.1 (none set is.0)))
      comparison-tells
