-- The search for the lowest set, a set, a block and a group at a time.
use Prim.Native.Nat.{ℕ, zero, suc, ◌+◌, ◌-◌, ◌*◌, ◌^◌, ◌≤◌, ◌<◌}
use mathlib.Core.Bool.{Bool, true, false, cond}
use mathlib.Core.Logic.{⊎_elim}
use mathlib.Core.Option.{Option, none, some}
use mathlib.Core.Path.{◌≡◌, refl, sym, ap, ap₂, subst, ◌∙◌}
use native.Mathlib.Nat.{zero-add, add-zero, suc-add}
use native.Mathlib.Omega.{arith}
use lib.Count.{count_trailing_zeros}
use Rattle.arith.proofs.Order.{le-or-lt}
use Rattle.signals.specs.Sets.{present}
use Rattle.blocks.specs.Blocks.{BlockOf}
use Rattle.signals.proofs.BitLaws.{present-none, lowest-bit}
use Rattle.checks.specs.Checks.{lowest_from, lowest_set}

module _ (test : ℕ → Bool) where
  step : (count set : ℕ) (b : Bool) → test set ≡ b → lowest_from (suc count) set test ≡ cond b (some set) (lowest_from count (set + 1) test)
  unfolding lowest_from
  step count set b e = rw e refl

  pub lowest-zero : test 0 ≡ true → lowest_set test ≡ some 0
  unfolding lowest_set
  lowest-zero e = step 65535 0 true e

-- ---- what was found

-- among the `count` numbers from `from` on: none passes the test, or this is the lowest that does
abbrev FirstIs : (ℕ → Bool) → ℕ → ℕ → Option ℕ → Type 0
FirstIs test count from none = (i : ℕ) → from ≤ i → i < from + count → test i ≡ false
FirstIs test count from (some set) = (from ≤ set) × (set < from + count) × (test set ≡ true) × ((i : ℕ) → from ≤ i → i < set → test i ≡ false)

-- among all sets
abbrev pub LowestIs : (ℕ → Bool) → Option ℕ → Type 0
LowestIs test none = (i : ℕ) → i ≤ 65535 → test i ≡ false
LowestIs test (some set) = (set ≤ 65535) × (test set ≡ true) × ((i : ℕ) → i < set → test i ≡ false)

module _ (test : ℕ → Bool) where
  first-is : (count from : ℕ) → FirstIs test count from (lowest_from count from test)
  unfolding lowest_from
  first-is zero from = λ i h l. absurd (omega arith)
  first-is (suc count) from = go (test from) refl (lowest_from count (from + 1) test) (first-is count (from + 1))
    where
      below : test from ≡ false → (n : ℕ) → ((i : ℕ) → from + 1 ≤ i → i < n → test i ≡ false) → (i : ℕ) → from ≤ i → i < n → test i ≡ false
      below e n later i h l =
          ⊎_elim (λ (g : from + 1 ≤ i). later i g l) (λ (g : i < from + 1). let same : i ≡ from = omega arith in ap test same ∙ e) (le-or-lt (from + 1) i)

      go : (b : Bool) → test from ≡ b → (found : Option ℕ) → FirstIs test count (from + 1) found → FirstIs test (suc count) from (cond b (some from) found)
      go true e found h = (omega arith, omega arith, e, λ i g l. absurd (omega arith))
      go false e none h = below e (from + suc count) (λ i g l. h i g (omega arith))
      go false e (some set) h = (omega (arith, h.0), omega (arith, h.1), h.2, below e set h.3)

  pub lowest-is : LowestIs test (lowest_set test)
  unfolding lowest_set
  lowest-is = go (lowest_from 65536 0 test) (first-is 65536 0)
    where
      go : (found : Option ℕ) → FirstIs test 65536 0 found → LowestIs test found
      go none h = λ i l. h i (omega arith) (omega arith)
      go (some set) h = (omega (arith, h.1), h.2, λ i l. h.3 i (omega arith) l)

  -- a number that was found is one of those that were searched
  pub found_among : (count from set : ℕ) → lowest_from count from test ≡ some set → (from ≤ set) × (set < from + count)
  found_among count from set e = let f = subst (FirstIs test count from) e (first-is count from) in (f.0, f.1)

-- ---- in parts

later : (a b : ℕ) → a + 1 + b ≡ a + suc b
later a b = omega arith

-- what one part has, or else a later one
abbrev or_later : Option ℕ → Option ℕ → Option ℕ
or_later (some set) rest = some set
or_later none rest = rest

module _ (test : ℕ → Bool) where
  in_parts : (n m from : ℕ) → lowest_from (n + m) from test ≡ or_later (lowest_from n from test) (lowest_from m (from + n) test)
  unfolding lowest_from
  in_parts zero m from = ap₂ (λ (a b : ℕ). lowest_from a b test) (zero-add m) (sym (add-zero from))
  in_parts (suc n) m from =
      ap (λ (k : ℕ). lowest_from k from test) (suc-add n m)
      ∙ ap (λ (o : Option ℕ). cond (test from) (some from) o) (in_parts n m (from + 1))
      ∙ go (test from) (lowest_from n (from + 1) test)
      ∙ ap (λ (k : ℕ). or_later (cond (test from) (some from) (lowest_from n (from + 1) test)) (lowest_from m k test)) (later from n)
    where
      go : (t : Bool) (o : Option ℕ) → cond t (some from) (or_later o (lowest_from m (from + 1 + n) test)) ≡ or_later (cond t (some from) o) (lowest_from m (from + 1 + n) test)
      go true o = refl
      go false o = refl

  -- none of the first n passes the test, and the search goes on after them
  pub search-on : (n m from : ℕ) → lowest_from n from test ≡ none → lowest_from (n + m) from test ≡ lowest_from m (from + n) test
  search-on n m from e = in_parts n m from ∙ ap (λ (o : Option ℕ). or_later o (lowest_from m (from + n) test)) e

  -- one of them does, and is the lowest of all
  pub search-ends : (n m from set : ℕ) → lowest_from n from test ≡ some set → lowest_from (n + m) from test ≡ some set
  search-ends n m from set e = in_parts n m from ∙ ap (λ (o : Option ℕ). or_later o (lowest_from m (from + n) test)) e

  all-fail : (n from : ℕ) → ((i : ℕ) → i < n → test (from + i) ≡ false) → lowest_from n from test ≡ none
  unfolding lowest_from
  all-fail zero from fails = refl
  all-fail (suc n) from fails =
      step test n from false (ap test (sym (add-zero from)) ∙ fails 0 (omega arith))
      ∙ all-fail n (from + 1) (λ i l. ap test (later from i) ∙ fails (suc i) (omega arith))

  pub nowhere : ((i : ℕ) → test i ≡ false) → none ≡ lowest_set test
  unfolding lowest_set
  nowhere fails = sym (all-fail 65536 0 (λ i l. fails (0 + i)))

-- ---- a block at a time

module _ (test : ℕ → Bool) (block word : ℕ) (w : BlockOf test block word) where
  block_none : word ≡ 0 → lowest_from 64 (64 * block) test ≡ none
  block_none e = all-fail test 64 (64 * block) (λ i l. sym (w i l) ∙ ap (λ (x : ℕ). present x i) e ∙ present-none i)

  pub block_here : 0 < word → word < 2 ^ 64 → lowest_from 64 (64 * block) test ≡ some (64 * block + count_trailing_zeros 64 word)
  block_here p h =
      let (l, lowest) = lowest-bit 64 word p h in
      let t = count_trailing_zeros 64 word in
      let parts : 64 ≡ t + suc (63 - t) = omega (arith, l) in
      ap (λ (n : ℕ). lowest_from n (64 * block) test) parts
      ∙ search-on test t (suc (63 - t)) (64 * block) (all-fail test t (64 * block) (λ i b. sym (w i (omega (arith, l))) ∙ lowest.none i b))
      ∙ step test (63 - t) (64 * block + t) true (sym (w t l) ∙ lowest.here)

-- ---- part after part

module _ (test : ℕ → Bool) where
  pub none_yet : (from : ℕ) → lowest_from 0 from test ≡ none
  unfolding lowest_from
  none_yet from = refl

  pub none-at-end : (n total from : ℕ) → n ≡ total → lowest_from n from test ≡ none → none ≡ lowest_from total from test
  none-at-end n total from e h = sym h ∙ ap (λ (m : ℕ). lowest_from m from test) e

  -- after n numbers of which none passes the test, a part of so many
  module _ (from n width at : ℕ) (before : lowest_from n from test ≡ none) (place : from + n ≡ at) where
    at_part : lowest_from (n + width) from test ≡ lowest_from width at test
    at_part = search-on test n width from before ∙ ap (λ (x : ℕ). lowest_from width x test) place

    none-in-part : (next : ℕ) → next ≡ n + width → lowest_from width at test ≡ none → lowest_from next from test ≡ none
    none-in-part next e h = ap (λ (m : ℕ). lowest_from m from test) e ∙ at_part ∙ h

    found-in-part : (more total : ℕ) → n + width + more ≡ total → (set : ℕ) → lowest_from width at test ≡ some set → some set ≡ lowest_from total from test
    found-in-part more total e set h = sym (search-ends test (n + width) more from set (at_part ∙ h)) ∙ ap (λ (m : ℕ). lowest_from m from test) e

  -- the blocks of a group
  module _ (group k : ℕ) (before : lowest_from (64 * k) (1024 * group) test ≡ none) where
    pub next-block : (word : ℕ) → BlockOf test (16 * group + k) word → word ≡ 0 → lowest_from (64 * (k + 1)) (1024 * group) test ≡ none
    next-block word w e =
        none-in-part (1024 * group) (64 * k) 64 (64 * (16 * group + k)) before (omega arith) (64 * (k + 1)) (omega arith) (block_none test (16 * group + k) word w e)

    pub in_block : k < 16 → (set : ℕ) → lowest_from 64 (64 * (16 * group + k)) test ≡ some set → some set ≡ lowest_from 1024 (1024 * group) test
    in_block l = found-in-part (1024 * group) (64 * k) 64 (64 * (16 * group + k)) before (omega arith) (960 - 64 * k) 1024 (omega arith)

  -- the groups of all sets
  module _ (group : ℕ) (before : lowest_from (1024 * group) 0 test ≡ none) where
    pub next-group : lowest_from 1024 (1024 * group) test ≡ none → lowest_from (1024 * (group + 1)) 0 test ≡ none
    next-group = none-in-part 0 (1024 * group) 1024 (1024 * group) before (omega arith) (1024 * (group + 1)) (omega arith)

    pub in_group : group ≤ 63 → (set : ℕ) → lowest_from 1024 (1024 * group) test ≡ some set → some set ≡ lowest_set test
    unfolding lowest_set
    in_group l = found-in-part 0 (1024 * group) 1024 (1024 * group) before (omega arith) (64512 - 1024 * group) 65536 (omega arith)

    pub none_at_all : group ≡ 64 → none ≡ lowest_set test
    unfolding lowest_set
    none_at_all e = none-at-end (1024 * group) 65536 0 (omega arith) before
