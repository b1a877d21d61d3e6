-- The masks of a policy's lines are those of its minimal sets, each once: a mask tells which of some rules with different signals it was made of.
use Prim.Native.Nat.{ℕ, ◌+◌, ◌^◌, ◌<◌}
use mathlib.Core.Bool.{Bool, true, false, ◌||◌}
use mathlib.Core.List.Memᴰ
use mathlib.Core.List.Permᴰ
use mathlib.Core.List.{List, [], ◌∷◌, map, map-map, map-id, Memᴰ, Permᴰ, Sublistᴰ}
use mathlib.Core.Logic.{◌↔◌}
use mathlib.Core.Path.{◌≡◌, refl, sym, ap, ap₂, subst, ◌∙◌}
use native.Mathlib.Omega.{arith}
use lib.IntN.{ℤ}
use lib.ListN.{length}
use lib.Pow.{pow_pos}
use borrow.Author.Tests.{eq-eqb, ne_eqb}
use Rattle.arith.specs.Lists.{keep, non_empty}
use Rattle.arith.specs.Members.{Among, Each, Distinct}
use Rattle.arith.proofs.Distinct.{is_in, Other, each-absent, distinct-order, order-distinct, distinct-inside}
use Rattle.arith.proofs.Each.{each_map, map_same}
use Rattle.arith.proofs.InOrder.{order-then, order-map}
use Rattle.arith.proofs.Members.{each_in, each-out}
use Rattle.arith.proofs.Reordering.{same-reordered, length-reordered, some-reordered}
use Rattle.arith.proofs.Sublists.{kept-inside, inside-map}
use Rattle.arith.proofs.Tests.{clash}
use Rattle.signals.specs.Sets.{present, inside, set_of}
use Rattle.signals.proofs.SetOfLaws.{present-set}
use Rattle.peal.specs.Policies.{Rule, Policy, mask_of}
use Rattle.peal.specs.Ranking.{ranked}
use Rattle.peal.specs.Lines.{minimal_sets, has, lines}
use Rattle.peal.specs.SetsOfRules.{SetInside}
use Rattle.peal.specs.Score.{present_rules}
use Rattle.peal.specs.Presence.{all_present}
use Rattle.peal.specs.MasksDecide.{SignalsFit}
use Rattle.peal.specs.declared.Operator.{Operator}
use Rattle.peal.proofs.HavingLaws.{has-reordered}
use Rattle.peal.proofs.LineLaws.{lines-are-minimal}
use Rattle.peal.proofs.MaskLaws.{masks-decide, ranked-fit, fewer-fit}
use Rattle.peal.proofs.MinimalSets.{IsMinimal, minimal-sets, minimal-inside}
use Rattle.peal.proofs.RankLaws.{ranked-reordered}
use Rattle.peal.proofs.SingleLaws.{lines-minimal}
use Rattle.agreement.specs.Demand3.{MinimalMasks}

-- ---- a list inside one with different numbers is told by its numbers

module _ {A : Type 0} (number : A → ℕ) where
  -- the test passes x exactly if its number is one of X
  abbrev Tells : (A → Bool) → List A → A → Type 0
  Tells test X x = test x ≡ is_in (number x) (map number X)

  told-inside : (test : A → Bool) {X Y : List A} → Sublistᴰ X Y → Distinct (map number Y) → Each (Tells test X) Y → keep test Y ≡ X
  told-inside test Sublistᴰ.slnil d h = refl
  told-inside test (Sublistᴰ.cons {a = y} {l₁ = X} s) d h =
      let others = (distinct-inside (Sublistᴰ.cons-cons refl (inside-map number s)) d).0 in
      rw (h.0 ∙ each-absent (number y) (map number X) others) (told-inside test s d.1 h.1)
  told-inside test (Sublistᴰ.cons-cons {a = x} {b = y} {l₁ = X} {l₂ = Y} e s) d h =
      rw (h.0 ∙ ap (λ (t : Bool). t || is_in (number y) (map number X)) (eq-eqb (number x) (number y) (ap number e)))
      (ap₂ {B = List A} (λ z Z. z ∷ Z) (sym e) (told-inside test s d.1 (each_in (Tells test X) Y later)))
    where
      later : (z : A) → Memᴰ z Y → Tells test X z
      later z m =
          let other = each-out (λ (z : A). number y ≡ number z → ⊥) (each_map (λ (i : ℕ). number y ≡ i → ⊥) number Y d.0) m in
          each-out (Tells test (x ∷ X)) h.1 m ∙ ap (λ (t : Bool). t || is_in (number z) (map number X)) (ne_eqb (number x) (number z) (λ k. other (sym (ap number e) ∙ k)))

-- ---- sets of rules, and the same rules in another order

abbrev signal_of : Rule → ℕ
signal_of r = r.signal

-- the rules of a set are those present in its mask
present-in-mask : {X rules : List Rule} → SetInside X rules → SignalsFit rules → present_rules (mask_of X) rules ≡ X
unfolding present_rules mask_of
present-in-mask {X} {rules} s fit =
    let test : Rule → Bool = λ r. present (mask_of X) r.signal in
    told-inside signal_of test s fit.different (each_in (Tells signal_of test X) rules (λ r m. present-set (map signal_of X) (fewer-fit s fit).different r.signal))

mask-reordered : {X Y : List Rule} → Permᴰ X Y → mask_of X ≡ mask_of Y
unfolding mask_of set_of
mask-reordered d = same-reordered mask_of (λ a b X. omega arith) (λ a X Y e. ap (λ (m : ℕ). 2 ^ a.signal + m) e) d

mask-some : (X : List Rule) → non_empty X ≡ true → 0 < mask_of X
unfolding mask_of set_of
mask-some [] h = clash h refl
mask-some (r ∷ X) h = omega (arith, pow_pos r.signal)

minimal-reordered : (o : Operator) (t : ℤ) {X Y : List Rule} → Permᴰ X Y → IsMinimal (has o t) X → IsMinimal (has o t) Y
minimal-reordered o t {X} {Y} d h =
    record { some = sym (some-reordered d) ∙ h.some; holds = sym (has-reordered o t d) ∙ h.holds; no_smaller = smaller }
  where
    smaller : (Z : List Rule) → SetInside Z Y → non_empty Z ≡ true → length Z < length Y → has o t Z ≡ false
    smaller Z s k l =
        let (W, q, i) = Permᴰ.exists_sublist (Permᴰ.symm d) s in
        sym (has-reordered o t q) ∙ h.no_smaller W i (some-reordered q ∙ k) (omega (arith, l, length-reordered q, length-reordered d))

-- ---- the masks of minimal sets

-- the mask is that of a minimal set of the rules
record MaskOfMinimal (property : List Rule → Bool) (rules : List Rule) (mask : ℕ) : Type 0 where
  set : List Rule
  within : SetInside set rules
  minimal : IsMinimal property set
  same : mask_of set ≡ mask

-- a mask among those of the minimal sets
abbrev MinimalMask : (List Rule → Bool) → List Rule → ℕ → Type 0
MinimalMask property rules mask = Among mask (map mask_of (minimal_sets property rules))

mask-out : (property : List Rule → Bool) (rules : List Rule) {m : ℕ} → MinimalMask property rules m → MaskOfMinimal property rules m
mask-out property rules k =
    let (X, i, e) = Memᴰ.of_map mask_of (minimal_sets property rules) k in
    let (s, minimal) = (minimal-sets property rules X).0 i in
    record { set = X; within = s; minimal = minimal; same = e }

-- the same rules in another order have the same masks of minimal sets
masks-reordered : (o : Operator) (t : ℤ) {X Y : List Rule} → Permᴰ X Y → {m : ℕ} → MinimalMask (has o t) X m → MinimalMask (has o t) Y m
masks-reordered o t {X} {Y} d k =
    let x = mask-out (has o t) X k in
    let (Z, e, s) = Permᴰ.exists_sublist d x.within in
    subst (λ (m : ℕ). Among m (map mask_of (minimal_sets (has o t) Y))) (mask-reordered e ∙ x.same)
    (Memᴰ.map mask_of ((minimal-sets (has o t) Y Z).1 (s, minimal-reordered o t (Permᴰ.symm e) x.minimal)))

-- ---- the lines of a policy

module _ (p : Policy) (t : ℤ) (fit : SignalsFit p.rules) where
  abbrev sets : List (List Rule)
  sets = lines p.operator t p.rules

  -- the lines are the masks of minimal sets of the ranked rules, and so of the rules in book order
  exactly : (m : ℕ) → Among m (map mask_of sets) ↔ MinimalMask (has p.operator t) p.rules m
  exactly m =
      let d = ranked-reordered p.operator p.rules in
      rw (lines-minimal p.operator t p.rules) (masks-reordered p.operator t d, masks-reordered p.operator t (Permᴰ.symm d))

  -- a mask tells the set it was made of, so no mask stands there twice
  abbrev told : ℕ → List Rule
  told m = present_rules m (ranked p.operator p.rules)

  sets-told : map told (map mask_of sets) ≡ sets
  sets-told =
      let fits = ranked-fit p.operator p.rules fit in
      let minimal = lines-are-minimal p.operator t p.rules fit.different in
      map-map told mask_of sets
      ∙ map_same (λ L. told (mask_of L)) (λ L. L) sets (each_in (λ (L : List Rule). told (mask_of L) ≡ L) sets (λ L l. present-in-mask ((minimal.exactly L).0 l).0 fits))
      ∙ map-id sets

  masks-once : Distinct (map mask_of sets)
  masks-once =
      order-distinct (map mask_of sets)
      (order-then (λ (m k : ℕ). Other (told m) (told k)) Other (λ m k differ e. differ (ap told e)) (map mask_of sets)
      (order-map Other told (map mask_of sets) (rw sets-told (distinct-order sets (lines-are-minimal p.operator t p.rules fit.different).once))))

  pub masks-minimal : MinimalMasks p t (map mask_of sets)
  masks-minimal =
      record {
        exactly = exactly;
        once = masks-once;
        demands = λ m k. let x = mask-out (has p.operator t) p.rules ((exactly m).0 k) in omega (arith, x.same, mask-some x.set x.minimal.some);
      }

  -- a mask that lies inside another is of a set inside the other's, and so the same
  pub minimal-mask-inside : (m k : ℕ) → MinimalMask (has p.operator t) p.rules m → MinimalMask (has p.operator t) p.rules k → inside k m ≡ true → k ≡ m
  unfolding present_rules all_present
  minimal-mask-inside m k h l i =
      let x = mask-out (has p.operator t) p.rules h in
      let y = mask-out (has p.operator t) p.rules l in
      let present : all_present m y.set ≡ true =
      sym (masks-decide y.set m (fewer-fit y.within fit)).0 ∙ ap (λ (n : ℕ). inside n m) y.same ∙ i in
      let rules : present_rules m p.rules ≡ x.set = ap (λ (n : ℕ). present_rules n p.rules) (sym x.same) ∙ present-in-mask x.within fit in
      let within : SetInside y.set x.set = subst (SetInside y.set) rules (kept-inside _ y.within present) in
      sym y.same ∙ ap mask_of (minimal-inside _ x.minimal y.minimal within) ∙ x.same
