-- Laws of a property that each member has.
use Prim.Native.Nat.{ℕ, zero, suc, ◌<◌}
use mathlib.Core.List.{List, [], ◌∷◌, ◌++◌, map}
use mathlib.Core.Path.{◌≡◌, refl, ap₂}
use native.Mathlib.Omega.{arith}
use lib.ListN.{length, get_or, set}
use Rattle.arith.specs.Members.{Each}

module _ {A : Type 0} (P : A → Type 0) where
  pub each_none : (xs : List A) → length xs ≡ 0 → Each P xs
  each_none [] h = tt
  each_none (x ∷ xs) h = absurd (omega arith)

  pub each-get : (xs : List A) (i : ℕ) (d : A) → Each P xs → i < length xs → P (get_or xs i d)
  each-get [] i d e h = absurd (omega arith)
  each-get (x ∷ xs) zero d e h = e.0
  each-get (x ∷ xs) (suc i) d e h = each-get xs i d e.1 (omega arith)

  pub each-default : (xs : List A) (i : ℕ) (d : A) → Each P xs → P d → P (get_or xs i d)
  each-default [] i d e p = p
  each-default (x ∷ xs) zero d e p = e.0
  each-default (x ∷ xs) (suc i) d e p = each-default xs i d e.1 p

  pub each_more : (xs : List A) (x : A) → Each P xs → P x → Each P (xs ++ (x ∷ []))
  each_more [] x e p = (p, tt)
  each_more (y ∷ xs) x e p = (e.0, each_more xs x e.1 p)

  -- of two lists, one after the other
  pub each-front : (xs ys : List A) → Each P (xs ++ ys) → Each P xs
  each-front [] ys e = tt
  each-front (x ∷ xs) ys e = (e.0, each-front xs ys e.1)

  pub each-rest : (xs ys : List A) → Each P (xs ++ ys) → Each P ys
  each-rest [] ys e = e
  each-rest (x ∷ xs) ys e = each-rest xs ys e.1

  pub each_set : (xs : List A) (i : ℕ) (x : A) → Each P xs → P x → Each P (set xs i x)
  each_set [] i x e p = tt
  each_set (y ∷ xs) zero x e p = (p, e.1)
  each_set (y ∷ xs) (suc i) x e p = (e.0, each_set xs i x e.1 p)

module _ {A B : Type 0} (P : B → Type 0) (f : A → B) where
  pub each_map : (xs : List A) → Each P (map f xs) → Each (λ (x : A). P (f x)) xs
  each_map [] h = tt
  each_map (x ∷ xs) h = (h.0, each_map xs h.1)

pub map_same : {A B : Type 0} (f g : A → B) (xs : List A) → Each (λ (x : A). f x ≡ g x) xs → map f xs ≡ map g xs
map_same f g [] h = refl
map_same {B = B} f g (x ∷ xs) h = ap₂ {B = List B} (λ y l. y ∷ l) h.0 (map_same f g xs h.1)
