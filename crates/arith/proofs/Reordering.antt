-- Laws of a list in another order.
use Prim.Native.Nat.{suc}
use mathlib.Core.Bool.{Bool, true, false, cond, ◌||◌}
use mathlib.Core.List.Permᴰ
use mathlib.Core.List.{List, ◌∷◌, Memᴰ, Permᴰ}
use mathlib.Core.Path.{◌≡◌, refl, sym, ap, subst, ◌∙◌}
use lib.ListN.{length}
use Rattle.arith.specs.Lists.{exists, keep, non_empty}
use Rattle.arith.specs.Members.{Each}
use Rattle.arith.proofs.Members.{each_in, each-out}
use Rattle.arith.proofs.Tests.{or_swap}

module _ {A : Type 0} where
  pub each-reordered : (P : A → Type 0) {X Y : List A} → Permᴰ X Y → Each P X → Each P Y
  each-reordered P Permᴰ.nil h = tt
  each-reordered P (Permᴰ.cons e d) h = (subst P e h.0, each-reordered P d h.1)
  each-reordered P (Permᴰ.swap e f) h = (subst P f h.1.0, (subst P e h.0, h.1.1))
  each-reordered P (Permᴰ.trans d e) h = each-reordered P e (each-reordered P d h)

  pub among-reordered : {X Y : List A} {x : A} → Permᴰ X Y → Memᴰ x Y → Memᴰ x X
  among-reordered {X} d m =
      let AmongX : A → Type 0 = λ x. Memᴰ x X in each-out AmongX (each-reordered AmongX d (each_in AmongX X (λ x k. k))) m

  -- a member first, and the others after it
  pub member-first : {x : A} {X : List A} → Memᴰ x X → (Y : List A) × Permᴰ X (x ∷ Y)
  member-first (Memᴰ.head {xs = X} e) = (X, Permᴰ.cons (sym e) (Permᴰ.refl X))
  member-first (Memᴰ.tail {x = y} m) =
      let (Y, d) = member-first m in
      (y ∷ Y, Permᴰ.trans (Permᴰ.cons refl d) (Permᴰ.swap refl refl))

  pub keep-reordered : (test : A → Bool) {X Y : List A} → Permᴰ X Y → Permᴰ (keep test X) (keep test Y)
  keep-reordered test Permᴰ.nil = Permᴰ.nil
  keep-reordered test (Permᴰ.cons {b = b} {l₁ = X} {l₂ = Y} e d) = rw e (go (test b) (keep-reordered test d))
    where
      go : (t : Bool) → Permᴰ (keep test X) (keep test Y)
          → Permᴰ (cond t (b ∷ keep test X) (keep test X)) (cond t (b ∷ keep test Y) (keep test Y))
      go true i = Permᴰ.cons refl i
      go false i = i
  keep-reordered test (Permᴰ.swap {a' = b} {b' = a} {l = X} e f) = rw (e, f) (go (test a) (test b))
    where
      go : (s t : Bool)
          → Permᴰ (cond s (a ∷ cond t (b ∷ keep test X) (keep test X)) (cond t (b ∷ keep test X) (keep test X)))
          (cond t (b ∷ cond s (a ∷ keep test X) (keep test X)) (cond s (a ∷ keep test X) (keep test X)))
      go true true = Permᴰ.swap refl refl
      go true false = Permᴰ.refl (a ∷ keep test X)
      go false true = Permᴰ.refl (b ∷ keep test X)
      go false false = Permᴰ.refl (keep test X)
  keep-reordered test (Permᴰ.trans d e) = Permᴰ.trans (keep-reordered test d) (keep-reordered test e)

  -- what does not see the order of two neighbours does not see the order at all
  module _ {B : Type 0} (value : List A → B) (swap : (a b : A) (X : List A) → value (a ∷ b ∷ X) ≡ value (b ∷ a ∷ X))
      (under : (a : A) (X Y : List A) → value X ≡ value Y → value (a ∷ X) ≡ value (a ∷ Y)) where
    pub same-reordered : {X Y : List A} → Permᴰ X Y → value X ≡ value Y
    same-reordered Permᴰ.nil = refl
    same-reordered (Permᴰ.cons {b = b} {l₁ = X} {l₂ = Y} e d) = rw e (under b X Y (same-reordered d))
    same-reordered (Permᴰ.swap {a' = b} {b' = a} {l = X} e f) = rw (e, f) (swap a b X)
    same-reordered (Permᴰ.trans d e) = same-reordered d ∙ same-reordered e

  pub length-reordered : {X Y : List A} → Permᴰ X Y → length X ≡ length Y
  length-reordered d = same-reordered length (λ a b X. refl) (λ a X Y e. ap suc e) d

  pub some-reordered : {X Y : List A} → Permᴰ X Y → non_empty X ≡ non_empty Y
  some-reordered d = same-reordered non_empty (λ a b X. refl) (λ a X Y e. refl) d

  pub exists-reordered : (test : A → Bool) {X Y : List A} → Permᴰ X Y → exists test X ≡ exists test Y
  exists-reordered test d =
      same-reordered (exists test) (λ a b X. or_swap (test a) (test b) (exists test X)) (λ a X Y e. ap (λ (t : Bool). test a || t) e) d
