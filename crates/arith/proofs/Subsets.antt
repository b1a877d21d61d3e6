-- Laws of `subsets`: it lists the sublists of a list.
use Prim.Native.Nat.{◌^◌}
use mathlib.Core.Bool.{Bool, false, cond}
use mathlib.Core.List.Memᴰ
use mathlib.Core.List.{List, [], ◌∷◌, ◌++◌, map, append_assoc, map-append, map-map, Memᴰ, Sublistᴰ}
use mathlib.Core.Logic.{⊎_elim}
use mathlib.Core.Path.{◌≡◌, refl, sym, ap, ◌∙◌}
use native.Mathlib.Nat.{two-pow-succ}
use native.Mathlib.Omega.{arith}
use lib.ListN.{length, length-append, length-map}
use Rattle.arith.specs.Lists.{keep, non_empty, subsets}
use Rattle.arith.proofs.Keep.{keep_append}
use Rattle.arith.proofs.Members.{keep-none}

module _ {A : Type 0} where
  -- `subsets` has the lists inside another, and no others
  pub subsets-in : {Y X : List A} → Sublistᴰ Y X → Memᴰ Y (subsets X)
  subsets-in Sublistᴰ.slnil = Memᴰ.head refl
  subsets-in (Sublistᴰ.cons {a = a} {l₂ = X} s) = Memᴰ.append_right (map (λ (Z : List A). a ∷ Z) (subsets X)) (subsets-in s)
  subsets-in (Sublistᴰ.cons-cons {b = b} {l₁ = Y} {l₂ = X} e s) =
      Memᴰ.append_left (subsets X) (Memᴰ.cast (ap (λ (a : A). a ∷ Y) e) (Memᴰ.map (λ (Z : List A). b ∷ Z) (subsets-in s)))

  pub subsets-out : (X : List A) {Y : List A} → Memᴰ Y (subsets X) → Sublistᴰ Y X
  subsets-out [] m = rw (Memᴰ.eq_of_singleton m) Sublistᴰ.slnil
  subsets-out (x ∷ X) m =
      ⊎_elim
      (λ k. let r = Memᴰ.of_map (λ (Z : List A). x ∷ Z) (subsets X) k in rw (sym r.2) (Sublistᴰ.cons-cons refl (subsets-out X r.1)))
      (λ k. Sublistᴰ.cons (subsets-out X k))
      (Memᴰ.append_cases (map (λ (Z : List A). x ∷ Z) (subsets X)) m)

  pub subsets-count : (X : List A) → length (subsets X) ≡ 2 ^ length X
  subsets-count [] = refl
  subsets-count (x ∷ X) =
      let i = subsets-count X in
      length-append (map (λ (Z : List A). x ∷ Z) (subsets X)) (subsets X)
      ∙ omega (arith, length-map (subsets X) (λ (Z : List A). x ∷ Z), two-pow-succ (length X))

  -- where a test passes none of the lists inside X but the empty one
  pub keep-empty : (test : List A → Bool) (f : List A → List A) (X : List A) → ((y : A) (Y : List A) → test (f (y ∷ Y)) ≡ false)
      → keep test (map f (subsets X)) ≡ cond (test (f [])) (f [] ∷ []) []
  keep-empty test f [] h = refl
  keep-empty test f (x ∷ X) h = simp (map-append, keep_append, map-map) (rw none (keep-empty test f X h))
    where
      none : keep test (map (λ (Z : List A). f (x ∷ Z)) (subsets X)) ≡ []
      none =
          keep-none test (map (λ (Z : List A). f (x ∷ Z)) (subsets X)) (λ Y m.
          let r = Memᴰ.of_map (λ (Z : List A). f (x ∷ Z)) (subsets X) m in ap test (sym r.2) ∙ h x r.0)

  -- ---- those that are not empty

  with-one : (x : A) (Ls : List (List A)) → keep non_empty (map (λ Y. x ∷ Y) Ls) ≡ map (λ Y. x ∷ Y) Ls
  with-one x [] = refl
  with-one x (L ∷ Ls) = ap (λ (Ms : List (List A)). (x ∷ L) ∷ Ms) (with-one x Ls)

  -- of one member more: those with it, and those without it
  pub subsets-more : (x : A) (X : List A) → keep non_empty (subsets (x ∷ X)) ≡ map (λ Y. x ∷ Y) (subsets X) ++ keep non_empty (subsets X)
  subsets-more x X =
      keep_append non_empty (map (λ Y. x ∷ Y) (subsets X)) (subsets X)
      ∙ ap (λ (Ls : List (List A)). Ls ++ keep non_empty (subsets X)) (with-one x (subsets X))

  -- the empty one stands last
  pub subsets-last : (X : List A) → subsets X ≡ keep non_empty (subsets X) ++ ([] ∷ [])
  subsets-last [] = refl
  subsets-last (x ∷ X) =
      ap (λ (Ls : List (List A)). map (λ Y. x ∷ Y) (subsets X) ++ Ls) (subsets-last X)
      ∙ sym (append_assoc (map (λ Y. x ∷ Y) (subsets X)) (keep non_empty (subsets X)) ([] ∷ []))
      ∙ ap (λ (Ls : List (List A)). Ls ++ ([] ∷ [])) (sym (subsets-more x X))

pub subsets-map : {A B : Type 0} (f : A → B) (X : List A) → map (λ Y. map f Y) (subsets X) ≡ subsets (map f X)
subsets-map f [] = refl
subsets-map f (x ∷ X) = rw (← subsets-map f X) (simp (map-append, map-map))
