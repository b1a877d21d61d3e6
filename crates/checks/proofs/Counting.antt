-- How many sets of a group pass a test, where a table tells which of them fail it.
use Prim.Native.Nat.{ℕ, ◌+◌, ◌*◌, ◌/◌, ◌%◌, ◌≤◌, ◌<◌}
use mathlib.Core.Bool.{Bool, true, not, not-not}
use mathlib.Core.List.{List}
use mathlib.Core.Path.{◌≡◌, sym, ap, ◌∙◌}
use native.Mathlib.Omega.{arith}
use lib.ListN.{get_or}
use Rattle.arith.specs.Lists.{count_below}
use Rattle.arith.proofs.Counts.{count-le, count_same, count_add, count-all}
use Rattle.signals.specs.Sets.{present}
use Rattle.groups.specs.Groups.{GroupOf}

module _ (test : ℕ → Bool) (group : ℕ) (table : List ℕ) (g : GroupOf (λ set. not (test set)) group table)
    (k count : ℕ) (before : count_below (1024 * group + 64 * k) test ≡ count_below (1024 * group) test + count)
    (within : k < 16) where
  -- those of block k up to the one of bit `last`
  block-part : (last n : ℕ) → last < 64 → n ≡ count_below (last + 1) (λ j. not (present (get_or table k 0) j))
      → count_below (1024 * group + 64 * k + (last + 1)) test ≡ count_below (1024 * group) test + (count + n)
  block-part last n l e =
      count_add test (1024 * group + 64 * k) (last + 1)
      ∙ ap (λ (n : ℕ). count_below (1024 * group + 64 * k) test + n) (count_same (λ i. test (1024 * group + 64 * k + i)) (λ j. not (present (get_or table k 0) j)) (last + 1) bits ∙ sym e)
      ∙ sum (count_below (1024 * group) test) count n before
    where
      place : (a b i : ℕ) → 1024 * a + 64 * b + i ≡ 64 * (16 * a + b) + i
      place a b i = omega arith

      bits : (i : ℕ) → i < last + 1 → test (1024 * group + 64 * k + i) ≡ not (present (get_or table k 0) i)
      bits i b =
          let inside : i < 64 = omega arith in
          ap test (place group k i) ∙ sym (not-not _) ∙ ap not (sym (g k within i inside))

      sum : {a : ℕ} (b c d : ℕ) → a ≡ b + c → a + d ≡ b + (c + d)
      sum b c d e = omega arith

  -- all of them
  pub block-counted : (n : ℕ) → n ≡ count_below 64 (λ j. not (present (get_or table k 0) j))
      → count_below (1024 * group + 64 * (k + 1)) test ≡ count_below (1024 * group) test + (count + n)
  block-counted n e = ap (λ (m : ℕ). count_below m test) (next group k) ∙ block-part 63 n (omega arith) e
    where
      next : (a b : ℕ) → 1024 * a + 64 * (b + 1) ≡ 1024 * a + 64 * b + 64
      next a b = omega arith

  -- those up to the one of place `last` in the group
  pub last-counted : (last n : ℕ) → k ≡ last / 64 → n ≡ count_below (last % 64 + 1) (λ j. not (present (get_or table k 0) j))
      → count_below (1024 * group + (last + 1)) test ≡ count_below (1024 * group) test + (count + n)
  last-counted last n q e = ap (λ (m : ℕ). count_below m test) (parts group k last q) ∙ block-part (last % 64) n (omega arith) e
    where
      parts : (a b n : ℕ) → b ≡ n / 64 → 1024 * a + (n + 1) ≡ 1024 * a + 64 * b + (n % 64 + 1)
      parts a b n e = omega arith

-- a test that all pass
pub all-counted : (test : ℕ → Bool) (from more : ℕ) → ((set : ℕ) → test set ≡ true) → count_below (from + more) test ≡ count_below from test + more
all-counted test from more h = count_add test from more ∙ ap (λ (n : ℕ). count_below from test + n) (count-all (λ i. test (from + i)) more (λ i. h (from + i)))

-- the count so far and that of the next part are the count of both, and no more than these are numbers
pub counted-on : (test : ℕ → Bool) (from more before here : ℕ) → before ≡ count_below from test → count_below (from + more) test ≡ count_below from test + here
    → (before + here ≡ count_below (from + more) test) × (before + here ≤ from + more)
counted-on test from more before here e f = (omega (arith, e, f), omega (arith, e, f, count-le test (from + more)))
