-- How many of the numbers below a limit pass a test.
use Prim.Native.Nat.{ℕ, zero, suc, ◌+◌, ◌*◌, ◌≤◌, ◌<◌}
use mathlib.Core.Bool.{Bool, true, false, cond}
use mathlib.Core.List.{◌∷◌}
use mathlib.Core.Path.{◌≡◌, refl, ap, ◌∙◌}
use native.Mathlib.Nat.{add-zero, add-suc, add_comm, zero-mul, suc-mul}
use native.Mathlib.Omega.{arith}
use lib.ListN.{length}
use Rattle.arith.specs.Lists.{keep, below, count_below}

pub count-zero : (test : ℕ → Bool) → count_below 0 test ≡ 0
unfolding count_below
count-zero test = refl

pub count-suc : (test : ℕ → Bool) (n : ℕ) → count_below (suc n) test ≡ count_below n test + cond (test n) 1 0
unfolding count_below
count-suc test n = go (test n)
  where
    go : (t : Bool) → length (cond t (n ∷ keep test (below n)) (keep test (below n))) ≡ length (keep test (below n)) + cond t 1 0
    go true = omega arith
    go false = omega arith

pub count-le : (test : ℕ → Bool) (n : ℕ) → count_below n test ≤ n
count-le test zero = omega (arith, count-zero test)
count-le test (suc n) = go (test n) (count-suc test n) (count-le test n)
  where
    go : (t : Bool) → count_below (suc n) test ≡ count_below n test + cond t 1 0 → count_below n test ≤ n → count_below (suc n) test ≤ suc n
    go true e l = omega arith
    go false e l = omega arith

-- by the tests of the numbers below the limit alone
pub count_same : (test other : ℕ → Bool) (n : ℕ) → ((i : ℕ) → i < n → test i ≡ other i) → count_below n test ≡ count_below n other
count_same test other zero h = omega (arith, count-zero test, count-zero other)
count_same test other (suc n) h =
    let rest = count_same test other n (λ i l. h i (omega arith)) in
    let here = ap {B = ℕ} (λ t. cond t 1 0) (h n (omega arith)) in
    omega (arith, count-suc test n, count-suc other n, rest, here)

-- those below n, and the m that follow
pub count_add : (test : ℕ → Bool) (n m : ℕ) → count_below (n + m) test ≡ count_below n test + count_below m (λ i. test (n + i))
count_add test n zero =
    let same : count_below (n + 0) test ≡ count_below n test = ap (λ (k : ℕ). count_below k test) (add-zero n) in
    omega (arith, same, count-zero (λ i. test (n + i)))
count_add test n (suc m) =
    let next : count_below (n + suc m) test ≡ count_below (suc (n + m)) test = ap (λ (k : ℕ). count_below k test) (add-suc n m) in
    omega (arith, next, count-suc test (n + m), count_add test n m, count-suc (λ i. test (n + i)) m)

-- number 0, and the n that follow it
pub count-first : (test : ℕ → Bool) (n : ℕ) → count_below (suc n) test ≡ cond (test 0) 1 0 + count_below n (λ i. test (suc i))
count-first test zero = omega (arith, count-suc test 0, count-zero test, count-zero (λ i. test (suc i)))
count-first test (suc n) = omega (arith, count-suc test (suc n), count-first test n, count-suc (λ i. test (suc i)) n)

pub count-some : (test : ℕ → Bool) (n : ℕ) → 0 < n → test 0 ≡ true → 0 < count_below n test
count-some test zero l h = absurd (omega arith)
count-some test (suc n) l h = let here = ap {B = ℕ} (λ t. cond t 1 0) h in omega (arith, count-first test n, here)

-- a test that every number passes
pub count-all : (test : ℕ → Bool) (n : ℕ) → ((i : ℕ) → test i ≡ true) → count_below n test ≡ n
count-all test zero h = count-zero test
count-all test (suc n) h = let here = ap {B = ℕ} (λ t. cond t 1 0) (h n) in omega (arith, count-suc test n, count-all test n h, here)

-- a test that says the same again after each `period` numbers
pub count-again : (test : ℕ → Bool) (period n : ℕ) → ((i : ℕ) → test (period + i) ≡ test i) → count_below (n * period) test ≡ n * count_below period test
count-again test period zero h =
    let none : count_below (zero * period) test ≡ count_below 0 test = ap (λ (k : ℕ). count_below k test) (zero-mul period) in
    omega (arith, none, count-zero test, zero-mul (count_below period test))
count-again test period (suc n) h =
    let parts : count_below (suc n * period) test ≡ count_below (period + n * period) test = ap (λ (k : ℕ). count_below k test) (suc-mul n period ∙ add_comm (n * period) period) in
    let rest = count_same (λ i. test (period + i)) test (n * period) (λ i l. h i) in
    omega (arith, parts, count_add test period (n * period), rest, count-again test period n h, suc-mul n (count_below period test))
