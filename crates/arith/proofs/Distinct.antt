-- Laws of lists of which no two members are equal; different numbers below n are at most n.
use Prim.Native.Nat.{ℕ, zero, suc, ◌≤◌, ◌<◌}
use mathlib.Core.Bool.{Bool, true, false, not, cond}
use mathlib.Core.List.Memᴰ
use mathlib.Core.List.Permᴰ
use mathlib.Core.List.{List, [], ◌∷◌, ◌++◌, Sublistᴰ, Permᴰ}
use mathlib.Core.Logic.{◌↔◌, ⊎_elim}
use mathlib.Core.Path.{◌≡◌, refl, sym, ap, ◌∙◌}
use native.Mathlib.Omega.{arith}
use lib.Dec.{eqb}
use lib.ListN.{length}
use borrow.Author.Tests.{eqb-true, eqb-false, eq-eqb, ne_eqb, not-true}
use Rattle.arith.specs.Lists.{exists, keep}
use Rattle.arith.specs.Members.{Among, Each, Distinct}
use Rattle.arith.specs.InOrder.{InOrder}
use Rattle.arith.proofs.Each.{each_more}
use Rattle.arith.proofs.EveryExists.{exists-in, exists-out}
use Rattle.arith.proofs.InOrder.{order-inside, order-reordered}
use Rattle.arith.proofs.Keep.{keep_all}
use Rattle.arith.proofs.Members.{each_in, each-out, keep_out}
use Rattle.arith.proofs.Reordering.{among-reordered, member-first}
use Rattle.arith.proofs.Sublists.{keep-inside}
use Rattle.arith.proofs.Tests.{clash, not_yes}

-- x is in the list
abbrev pub is_in : ℕ → List ℕ → Bool
is_in x l = exists (λ y. eqb y x) l

module _ {A : Type 0} where
  -- y is another than x
  abbrev pub Other : A → A → Type 0
  Other x y = x ≡ y → ⊥

  pub distinct-order : (X : List A) → Distinct X → InOrder Other X
  distinct-order [] h = tt
  distinct-order (x ∷ X) h = (h.0, distinct-order X h.1)

  pub order-distinct : (X : List A) → InOrder Other X → Distinct X
  order-distinct [] h = tt
  order-distinct (x ∷ X) h = (h.0, order-distinct X h.1)

  pub distinct-inside : {Y X : List A} → Sublistᴰ Y X → Distinct X → Distinct Y
  distinct-inside {Y} {X} s h = order-distinct Y (order-inside Other s (distinct-order X h))

  pub distinct-reordered : {X Y : List A} → Permᴰ X Y → Distinct X → Distinct Y
  distinct-reordered {X} {Y} d h = order-distinct Y (order-reordered Other (λ x y other e. other (sym e)) d (distinct-order X h))

  pub distinct_more : (l : List A) (x : A) → Distinct l → Each (Other x) l → Distinct (l ++ (x ∷ []))
  distinct_more [] x d h = (tt, tt)
  distinct_more (y ∷ l) x d h = (each_more (Other y) l x d.0 (λ e. h.0 (sym e)), distinct_more l x d.1 h.1)

  -- two such lists with the same members are the same in another order
  pub same-members : (X Y : List A) → Distinct X → Distinct Y → ((x : A) → Among x X ↔ Among x Y) → Permᴰ X Y
  same-members [] [] o p same = Permᴰ.refl []
  same-members [] (y ∷ Y) o p same = absurd (Memᴰ.not-nil ((same y).1 (Memᴰ.head refl)))
  same-members (x ∷ X) Y o p same =
      let (Z, d) = member-first ((same x).0 (Memᴰ.head refl)) in
      let q : Distinct (x ∷ Z) = distinct-reordered d p in
      let there : (z : A) → Among z X → Among z Z =
      λ z m. others z Z (each-out (Other x) o.0 m) (among-reordered (Permᴰ.symm d) ((same z).0 (Memᴰ.tail m))) in
      let back : (z : A) → Among z Z → Among z X =
      λ z m. others z X (each-out (Other x) q.0 m) ((same z).1 (among-reordered d (Memᴰ.tail m))) in
      Permᴰ.trans (Permᴰ.cons refl (same-members X Z o.1 q.1 (λ z. (there z, back z)))) (Permᴰ.symm d)
    where
      others : (z : A) (W : List A) → Other x z → Among z (x ∷ W) → Among z W
      others z W h m = ⊎_elim (λ (e : z ≡ x). absurd (h (sym e))) (λ (k : Among z W). k) (Memᴰ.cases_cons m)

-- ---- numbers

pub absent-each : (x : ℕ) (l : List ℕ) → is_in x l ≡ false → Each (Other x) l
absent-each x l h = each_in (Other x) l (λ y m e. clash (exists-in (λ z. eqb z x) m (eq-eqb y x (sym e))) h)

pub each-absent : (x : ℕ) (l : List ℕ) → Each (Other x) l → is_in x l ≡ false
each-absent x l h =
    not_yes (is_in x l) (λ k.
    let (y, m, e) = exists-out (λ z. eqb z x) l k in
    each-out (Other x) h m (sym (eqb-true y x e)))

-- the numbers of the list other than x
abbrev without : ℕ → List ℕ → List ℕ
without x l = keep (λ y. not (eqb y x)) l

one_less : (x : ℕ) (l : List ℕ) → Distinct l → length l ≤ suc (length (without x l))
one_less x [] h = omega arith
one_less x (y ∷ l) h = go (eqb y x) refl (one_less x l h.1)
  where
    go : (t : Bool) → eqb y x ≡ t → length l ≤ suc (length (without x l)) → suc (length l) ≤ suc (length (cond (not t) (y ∷ without x l) (without x l)))
    go true e i =
        let others : Each (λ (z : ℕ). not (eqb z x) ≡ true) l =
        each_in (λ (z : ℕ). not (eqb z x) ≡ true) l (λ z m. ap not (ne_eqb z x (λ k. each-out (Other y) h.0 m (eqb-true y x e ∙ sym k)))) in
        omega (arith, ap length (keep_all (λ z. not (eqb z x)) l others))
    go false e i = omega arith

below_less : (n : ℕ) (l : List ℕ) → Each (◌< suc n) l → Each (◌< n) (without n l)
below_less n l h =
    each_in (◌< n) (without n l) (λ y m.
    let (k, other) = keep_out (λ z. not (eqb z n)) l m in
    let u = each-out (◌< suc n) h k in
    let d = eqb-false y n (not-true (eqb y n) other) in
    omega arith)

pub at_most : (n : ℕ) (l : List ℕ) → Each (◌< n) l → Distinct l → length l ≤ n
at_most zero [] b a = omega arith
at_most zero (x ∷ l) b a = absurd (let h = b.0 in omega arith)
at_most (suc n) l b a =
    let i = at_most n (without n l) (below_less n l b) (distinct-inside (keep-inside (λ y. not (eqb y n)) l) a) in
    omega (arith, one_less n l a)
