-- Laws of the members that pass a test, and of those from a place on.
use Prim.Native.Nat.{ℕ, zero, suc, ◌≤◌}
use mathlib.Core.Bool.{Bool, true, false, cond}
use mathlib.Core.List.{List, [], ◌∷◌, ◌++◌, Memᴰ}
use mathlib.Core.Path.{◌≡◌, refl, ap, ap₂}
use native.Mathlib.Omega.{arith}
use lib.ListN.{length, drop}
use Rattle.arith.specs.Lists.{keep}
use Rattle.arith.specs.Members.{Each}

module _ {A : Type 0} (test : A → Bool) where
  pub keep-few : (xs : List A) → length (keep test xs) ≤ length xs
  keep-few [] = omega arith
  keep-few (x ∷ xs) = go (test x) (keep-few xs)
    where
      go : (t : Bool) → length (keep test xs) ≤ length xs → length (cond t (x ∷ keep test xs) (keep test xs)) ≤ suc (length xs)
      go true i = omega arith
      go false i = omega arith

  pub each_keep : (P : A → Type 0) (xs : List A) → Each P xs → Each P (keep test xs)
  each_keep P [] h = tt
  each_keep P (x ∷ xs) h = go (test x) (each_keep P xs h.1)
    where
      go : (t : Bool) → Each P (keep test xs) → Each P (cond t (x ∷ keep test xs) (keep test xs))
      go true i = (h.0, i)
      go false i = i

  pub keep_all : (xs : List A) → Each (λ (x : A). test x ≡ true) xs → keep test xs ≡ xs
  keep_all [] h = refl
  keep_all (x ∷ xs) h = rw h.0 (ap {B = List A} (λ l. x ∷ l) (keep_all xs h.1))

  -- another test that says the same of each member
  pub keep_same : (other : A → Bool) (xs : List A) → ((x : A) → Memᴰ x xs → test x ≡ other x) → keep test xs ≡ keep other xs
  keep_same other [] h = refl
  keep_same other (x ∷ xs) h =
      ap₂ (λ (t : Bool) (l : List A). cond t (x ∷ l) l) (h x (Memᴰ.head refl)) (keep_same other xs (λ y m. h y (Memᴰ.tail m)))

  pub keep_append : (xs ys : List A) → keep test (xs ++ ys) ≡ keep test xs ++ keep test ys
  keep_append [] ys = refl
  keep_append (x ∷ xs) ys = rw (keep_append xs ys) (go (test x))
    where
      go : (t : Bool) → cond t (x ∷ (keep test xs ++ keep test ys)) (keep test xs ++ keep test ys) ≡ cond t (x ∷ keep test xs) (keep test xs) ++ keep test ys
      go true = refl
      go false = refl

pub each-drop : {A : Type 0} (P : A → Type 0) (i : ℕ) (xs : List A) → Each P xs → Each P (drop i xs)
each-drop P zero xs h = h
each-drop P (suc i) [] h = h
each-drop P (suc i) (x ∷ xs) h = each-drop P i xs h.1
