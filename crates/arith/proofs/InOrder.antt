-- Laws of lists whose members stand to every later one as asked.
use Prim.Native.Nat.{ℕ, zero, suc, ◌≤◌, ◌<◌}
use mathlib.Core.List.{List, [], ◌∷◌, map, Sublistᴰ, Permᴰ}
use mathlib.Core.Path.{◌≡◌, subst}
use native.Mathlib.Omega.{arith}
use Rattle.arith.specs.Lists.{below}
use Rattle.arith.specs.Members.{Each}
use Rattle.arith.specs.InOrder.{InOrder}
use Rattle.arith.proofs.Each.{each_map}
use Rattle.arith.proofs.Members.{each_in, each-out}
use Rattle.arith.proofs.Sublists.{each-inside}
use Rattle.arith.proofs.Reordering.{each-reordered}

module _ {A : Type 0} (R : A → A → Type 0) where
  pub order-then : (S : A → A → Type 0) → ((a b : A) → R a b → S a b) → (X : List A) → InOrder R X → InOrder S X
  order-then S f [] h = tt
  order-then S f (x ∷ X) h = (each_in (S x) X (λ y m. f x y (each-out (R x) h.0 m)), order-then S f X h.1)

  pub order-inside : {Y X : List A} → Sublistᴰ Y X → InOrder R X → InOrder R Y
  order-inside Sublistᴰ.slnil h = tt
  order-inside (Sublistᴰ.cons s) h = order-inside s h.1
  order-inside (Sublistᴰ.cons-cons e s) h = rw e (each-inside (R _) s h.0, order-inside s h.1)

  -- two first members by the names of others
  swapped : (a b a' b' : A) (l : List A) → a ≡ b' → b ≡ a' → InOrder R (b ∷ a ∷ l) → InOrder R (a' ∷ b' ∷ l)
  swapped a b a' b' l e f h = subst (λ (y : A). InOrder R (a' ∷ y ∷ l)) e (subst (λ (x : A). InOrder R (x ∷ a ∷ l)) f h)

  pub order-reordered : ((a b : A) → R a b → R b a) → {X Y : List A} → Permᴰ X Y → InOrder R X → InOrder R Y
  order-reordered other Permᴰ.nil h = tt
  order-reordered other (Permᴰ.cons e d) h = rw (← e) (each-reordered (R _) d h.0, order-reordered other d h.1)
  order-reordered other (Permᴰ.swap e f) h = swapped _ _ _ _ _ e f ((other _ _ h.0.0, h.1.0), (h.0.1, h.1.1))
  order-reordered other (Permᴰ.trans d e) h = order-reordered other e (order-reordered other d h)

pub order-map : {A B : Type 0} (R : B → B → Type 0) (f : A → B) (X : List A) → InOrder R (map f X) → InOrder (λ (a b : A). R (f a) (f b)) X
order-map R f [] h = tt
order-map R f (x ∷ X) h = (each_map (R (f x)) f X h.0, order-map R f X h.1)

-- the numbers below n, falling
below_each : (n m : ℕ) → n ≤ m → Each (λ (k : ℕ). k < m) (below n)
below_each zero m h = tt
below_each (suc n) m h = (h, below_each n m (omega arith))

pub below-order : (n : ℕ) → InOrder (λ (k j : ℕ). j < k) (below n)
below-order zero = tt
below-order (suc n) = (below_each n n (omega arith), below-order n)
