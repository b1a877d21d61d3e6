-- Laws of sublists: lists that leave some members of another out and keep the order of the others.
use Prim.Native.Nat.{◌≤◌, ◌<◌}
use mathlib.Core.Bool.{Bool, true, false, cond}
use mathlib.Core.List.Sublistᴰ
use mathlib.Core.List.{List, [], ◌∷◌, ◌++◌, map, Sublistᴰ}
use mathlib.Core.Logic.{◌⊎◌, inl, inr, ⊎_elim}
use mathlib.Core.Path.{◌≡◌, refl, sym, ap, ap₂, subst, ◌∙◌}
use native.Mathlib.Omega.{arith}
use lib.ListN.{length}
use Rattle.arith.specs.Lists.{every, keep}
use Rattle.arith.specs.Members.{Each}
use Rattle.arith.proofs.Tests.{and_left, and_right}

module _ {A : Type 0} where
  pub inside-length : {Y X : List A} → Sublistᴰ Y X → length Y ≤ length X
  inside-length Sublistᴰ.slnil = omega arith
  inside-length (Sublistᴰ.cons s) = omega (arith, inside-length s)
  inside-length (Sublistᴰ.cons-cons e s) = omega (arith, inside-length s)

  pub each-inside : (P : A → Type 0) {Y X : List A} → Sublistᴰ Y X → Each P X → Each P Y
  each-inside P Sublistᴰ.slnil h = tt
  each-inside P (Sublistᴰ.cons s) h = each-inside P s h.1
  each-inside P (Sublistᴰ.cons-cons e s) h = (subst P (sym e) h.0, each-inside P s h.1)

  pub front-inside : (X Y : List A) → Sublistᴰ X (X ++ Y)
  front-inside [] Y = Sublistᴰ.nil-sublist Y
  front-inside (x ∷ X) Y = Sublistᴰ.cons-cons refl (front-inside X Y)

  pub end-inside : (X Y : List A) → Sublistᴰ Y (X ++ Y)
  end-inside [] Y = Sublistᴰ.refl Y
  end-inside (x ∷ X) Y = Sublistᴰ.cons (end-inside X Y)

  pub keep-inside : (test : A → Bool) (xs : List A) → Sublistᴰ (keep test xs) xs
  keep-inside test [] = Sublistᴰ.slnil
  keep-inside test (x ∷ xs) = go (test x) (keep-inside test xs)
    where
      go : (t : Bool) → Sublistᴰ (keep test xs) xs → Sublistᴰ (cond t (x ∷ keep test xs) (keep test xs)) (x ∷ xs)
      go true s = Sublistᴰ.cons-cons refl s
      go false s = Sublistᴰ.cons s

  -- a list inside X whose members all pass the test lies inside those that are kept
  pub kept-inside : (test : A → Bool) {Y X : List A} → Sublistᴰ Y X → every test Y ≡ true → Sublistᴰ Y (keep test X)
  kept-inside test Sublistᴰ.slnil h = Sublistᴰ.slnil
  kept-inside test {Y} (Sublistᴰ.cons {a = x} {l₂ = X} s) h = go (test x) (kept-inside test s h)
    where
      go : (t : Bool) → Sublistᴰ Y (keep test X) → Sublistᴰ Y (cond t (x ∷ keep test X) (keep test X))
      go true i = Sublistᴰ.cons i
      go false i = i
  kept-inside test (Sublistᴰ.cons-cons {a = y} {b = x} {l₁ = Y} {l₂ = X} e s) h =
      let passes : test x ≡ true = ap test (sym e) ∙ and_left (test y) (every test Y) h in
      rw passes (Sublistᴰ.cons-cons e (kept-inside test s (and_right (test y) (every test Y) h)))

  -- a list inside X that is as long as X is X
  pub whole-inside : {Y X : List A} → Sublistᴰ Y X → length X ≤ length Y → Y ≡ X
  whole-inside Sublistᴰ.slnil h = refl
  whole-inside (Sublistᴰ.cons s) h = absurd (omega (arith, inside-length s))
  whole-inside (Sublistᴰ.cons-cons e s) h = ap₂ {B = List A} (λ x X. x ∷ X) e (whole-inside s (omega arith))

  -- a shorter list inside X leaves a member of X out, and lies inside the others
  pub record LeftOut (Y X : List A) : Type 0 where
    pub front : List A
    pub member : A
    pub rest : List A
    pub whole : X ≡ front ++ (member ∷ rest)
    pub others : Sublistᴰ Y (front ++ rest)

  pub left_out : {Y X : List A} → Sublistᴰ Y X → length Y < length X → LeftOut Y X
  left_out Sublistᴰ.slnil h = absurd (omega arith)
  left_out (Sublistᴰ.cons {a = a} {l₂ = X} s) h = record { front = []; member = a; rest = X; whole = refl; others = s }
  left_out (Sublistᴰ.cons-cons {b = b} e s) h =
      let l = left_out s (omega arith) in
      record {
        front = b ∷ l.front;
        member = l.member;
        rest = l.rest;
        whole = ap {B = List A} (λ xs. b ∷ xs) l.whole;
        others = Sublistᴰ.cons-cons e l.others;
      }

  -- a list inside X and a last member lies inside X, or has that member after a list inside X
  pub inside-last : (X : List A) {Y : List A} {r : A} → Sublistᴰ Y (X ++ (r ∷ []))
      → Sublistᴰ Y X ⊎ ((Z : List A) × (Y ≡ Z ++ (r ∷ [])) × Sublistᴰ Z X)
  inside-last [] (Sublistᴰ.cons s) = inl s
  inside-last [] (Sublistᴰ.cons-cons e s) = inr ([], ap₂ {B = List A} (λ a l. a ∷ l) e (Sublistᴰ.eq-nil s), Sublistᴰ.slnil)
  inside-last (x ∷ X) (Sublistᴰ.cons s) =
      ⊎_elim (λ t. inl (Sublistᴰ.cons t)) (λ t. inr (t.0, t.1, Sublistᴰ.cons t.2)) (inside-last X s)
  inside-last (x ∷ X) (Sublistᴰ.cons-cons {a = a} e s) =
      ⊎_elim
      (λ t. inl (Sublistᴰ.cons-cons e t))
      (λ t. inr (a ∷ t.0, ap {B = List A} (λ l. a ∷ l) t.1, Sublistᴰ.cons-cons e t.2))
      (inside-last X s)

pub inside-map : {A B : Type 0} (f : A → B) {Y X : List A} → Sublistᴰ Y X → Sublistᴰ (map f Y) (map f X)
inside-map f Sublistᴰ.slnil = Sublistᴰ.slnil
inside-map f (Sublistᴰ.cons s) = Sublistᴰ.cons (inside-map f s)
inside-map f (Sublistᴰ.cons-cons e s) = Sublistᴰ.cons-cons (ap f e) (inside-map f s)
