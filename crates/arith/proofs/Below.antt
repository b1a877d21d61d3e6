-- A test of the numbers below n that are in a list is a test of the list.
use Prim.Native.Nat.{ℕ, zero, suc, ◌≤◌, ◌<◌}
use mathlib.Core.Bool.{Bool, true, false, not, ◌&&◌, ◌||◌, and-true, and_self}
use mathlib.Core.List.{List, [], ◌∷◌}
use mathlib.Core.Logic.{⊎_elim}
use mathlib.Core.Path.{◌≡◌, refl, sym, ap, ap₂, subst, ◌∙◌}
use native.Mathlib.Omega.{arith}
use lib.Dec.{eqb}
use borrow.Author.Tests.{eq-eqb, ne_eqb}
use Rattle.arith.specs.Lists.{every, exists, below}
use Rattle.arith.specs.Members.{Each}
use Rattle.arith.proofs.Distinct.{is_in}
use Rattle.arith.proofs.Tests.{not-and, and_left, and_right}
use Rattle.arith.proofs.EveryExists.{every-all, every-same, every-and, exists-not-every}
use Rattle.arith.proofs.Order.{le-or-lt}

apart : (a b c : Bool) → (not (a || b) || c) ≡ ((not a || c) && (not b || c))
apart true true c = sym (and_self c)
apart true false c = sym (and-true c)
apart false b c = refl

module _ (p : ℕ → Bool) where
  -- of one number
  abbrev if_is : ℕ → ℕ → Bool
  if_is s i = not (eqb s i) || p i

  not-below : (n s : ℕ) → n ≤ s → every (if_is s) (below n) ≡ true
  not-below zero s h = refl
  not-below (suc n) s h = rw (ne_eqb s n (λ e. omega arith)) (not-below n s (omega arith))

  one_below : (n s : ℕ) → s < n → every (if_is s) (below n) ≡ p s
  one_below zero s h = absurd (omega arith)
  one_below (suc n) s h = ⊎_elim here (λ l. further l (one_below n s l)) (le-or-lt n s)
    where
      here : n ≤ s → (if_is s n && every (if_is s) (below n)) ≡ p s
      here l = let e : s ≡ n = omega arith in rw (not-below n s l, eq-eqb s n e, e) (and-true (p n))

      further : s < n → every (if_is s) (below n) ≡ p s → (if_is s n && every (if_is s) (below n)) ≡ p s
      further l i = rw (ne_eqb s n (λ e. omega arith)) i

  -- each number of the list
  pub every-listed : (n : ℕ) (l : List ℕ) → Each (◌< n) l → every (λ i. not (is_in i l) || p i) (below n) ≡ every p l
  every-listed n [] h = every-all (λ i. true) (λ i. refl) (below n)
  every-listed n (s ∷ l) h =
      every-same (λ i. not (is_in i (s ∷ l)) || p i) (λ i. if_is s i && (not (is_in i l) || p i)) (below n) (λ i. apart (eqb s i) (is_in i l) (p i))
      ∙ every-and (if_is s) (λ i. not (is_in i l) || p i) (below n)
      ∙ ap₂ (λ (a b : Bool). a && b) (one_below n s h.0) (every-listed n l h.1)

-- some number of the list
pub exists-listed : (p : ℕ → Bool) (n : ℕ) (l : List ℕ) → Each (◌< n) l → exists (λ i. is_in i l && p i) (below n) ≡ exists p l
exists-listed p n l h =
    exists-not-every (λ i. is_in i l && p i) (below n)
    ∙ ap not (every-same (λ i. not (is_in i l && p i)) (λ i. not (is_in i l) || not (p i)) (below n) (λ i. not-and (is_in i l) (p i)) ∙ every-listed (λ i. not (p i)) n l h)
    ∙ sym (exists-not-every p l)

-- a test that every number below n passes
pub every-below : (p : ℕ → Bool) (n : ℕ) → every p (below n) ≡ true → (i : ℕ) → i < n → p i ≡ true
every-below p zero e i h = absurd (omega arith)
every-below p (suc n) e i h =
    ⊎_elim
    (λ (l : n ≤ i). let same : n ≡ i = omega arith in subst (λ (k : ℕ). p k ≡ true) same (and_left (p n) (every p (below n)) e))
    (λ (l : i < n). every-below p n (and_right (p n) (every p (below n)) e) i l)
    (le-or-lt n i)
