-- The search finds the minimal sets, for every property that persists.
use Prim.Native.Nat.{◌<◌}
use mathlib.Core.Bool.{Bool, true, false, cond}
use mathlib.Core.List.Memᴰ
use mathlib.Core.List.Sublistᴰ
use mathlib.Core.List.{List, [], ◌∷◌, ◌++◌, map, append-nil, append_assoc, map-append, map-map, map-id}
use mathlib.Core.Logic.{⊎_elim}
use mathlib.Core.Path.{◌≡◌, refl, sym, ap, ◌∙◌}
use native.Mathlib.Omega.{arith}
use lib.ListN.{length, length-append}
use Rattle.arith.specs.Lists.{keep, non_empty}
use Rattle.arith.proofs.Tests.{clash, same_answer, not_yes}
use Rattle.arith.proofs.Keep.{keep_append}
use Rattle.arith.proofs.Members.{keep-none}
use Rattle.arith.proofs.NonEmpty.{some-long, long-some, some-around}
use Rattle.arith.proofs.Sublists.{front-inside, end-inside, left_out, inside-last}
use Rattle.arith.proofs.Subsets.{subsets-more, subsets-last}
use Rattle.peal.specs.Policies.{Rule}
use Rattle.peal.specs.Lines.{sets_inside, minimal, minimal_sets}
use Rattle.peal.specs.SetsOfRules.{SetInside}
use Rattle.peal.proofs.MinimalSets.{IsMinimal, inside-out, minimal-out, minimal-in}
use Rattle.peal.specs.Search.{found_from, found_sets}
use Rattle.peal.specs.SearchFindsMinimal.{Persists, SearchFindsMinimal}

-- of one rule more: those with it and others, with it alone, and without it
inside-more : (r : Rule) (L : List Rule) → sets_inside (r ∷ L) ≡ map (λ Y. r ∷ Y) (sets_inside L ++ ([] ∷ [])) ++ sets_inside L
unfolding sets_inside
inside-more r L = subsets-more r L ∙ ap (λ (sets : List (List Rule)). map (λ Y. r ∷ Y) sets ++ sets_inside L) (subsets-last L)

module _ (property : List Rule → Bool) where
  -- no non-empty set inside X has the property
  abbrev NoneInside : List Rule → Type 0
  NoneInside X = (Y : List Rule) → SetInside Y X → non_empty Y ≡ true → property Y ≡ false

  -- the minimal ones among the sets X ++ Y, for the non-empty sets Y inside a list
  minimal_from : List Rule → List Rule → List (List Rule)
  minimal_from X L = keep (minimal property) (map (λ Y. X ++ Y) (sets_inside L))

  -- those with the next rule and others, with it alone, and without it
  from_cons : (X : List Rule) (r : Rule) (L : List Rule)
      → minimal_from X (r ∷ L) ≡ (minimal_from (X ++ (r ∷ [])) L ++ cond (minimal property (X ++ (r ∷ []))) ((X ++ (r ∷ [])) ∷ []) []) ++ minimal_from X L
  unfolding minimal_from
  from_cons X r L = rw (inside-more r L) (simp (map-append, keep_append, map-map, append_assoc))

  from-none : (X L : List Rule) → ((Y : List Rule) → SetInside Y L → IsMinimal property (X ++ Y) → non_empty Y ≡ true → ⊥) → minimal_from X L ≡ []
  unfolding minimal_from
  from-none X L h =
      keep-none (minimal property) (map (λ Y. X ++ Y) (sets_inside L)) (λ Z m.
      let (Y, k, e) = Memᴰ.of_map (λ (Y : List Rule). X ++ Y) (sets_inside L) m in
      let (s, some) = inside-out L k in
      rw (← e) (not_yes (minimal property (X ++ Y)) (λ least. h Y s (minimal-out property (X ++ Y) (some-around (end-inside X Y) some) least) some)))

  module _ (rules : List Rule) (persists : Persists property rules) where
    -- rules may be added after P
    pub grown : (P : List Rule) {Y X : List Rule} → SetInside Y X → SetInside (P ++ X) rules → property (P ++ Y) ≡ true → property (P ++ X) ≡ true
    grown P Sublistᴰ.slnil i h = h
    grown P (Sublistᴰ.cons {a = a} {l₂ = X} s) i h =
        persists.added P X a i (grown P s (Sublistᴰ.trans (Sublistᴰ.append (Sublistᴰ.refl P) (Sublistᴰ.cons (Sublistᴰ.refl X))) i) h)
    grown P (Sublistᴰ.cons-cons {b = b} {l₁ = Y} {l₂ = X} e s) i h =
        rw (append_assoc P (b ∷ []) X) at (grown (P ++ (b ∷ [])) s (rw (append_assoc P (b ∷ []) X) i) (rw (append_assoc P (b ∷ []) Y, ← e) h))

    -- where a smaller set inside X has the property with r after it, so has X: r is exchanged for a rule that was left out
    smaller-then : (X Y : List Rule) (r : Rule) → SetInside Y X → length Y < length X → SetInside (X ++ (r ∷ [])) rules
        → property (Y ++ (r ∷ [])) ≡ true → property X ≡ true
    smaller-then X Y r s l i h =
        let o = left_out s l in
        rw o.whole (go o.front o.rest o.member o.others (rw (o.whole, append_assoc o.front (o.member ∷ o.rest) (r ∷ [])) at i))
      where
        go : (A B : List Rule) (a : Rule) → SetInside Y (A ++ B) → SetInside (A ++ (a ∷ (B ++ (r ∷ [])))) rules → property (A ++ (a ∷ B)) ≡ true
        go A B a t j =
            let without : SetInside ((A ++ B) ++ (r ∷ [])) rules =
            rw (append_assoc A B (r ∷ [])) (Sublistᴰ.trans (Sublistᴰ.append (Sublistᴰ.refl A) (Sublistᴰ.cons (Sublistᴰ.refl (B ++ (r ∷ []))))) j) in
            persists.exchanged A B a r j (rw (append_assoc A B (r ∷ [])) at (grown [] (Sublistᴰ.append t (Sublistᴰ.refl (r ∷ []))) without h))

    -- so where no non-empty set inside X has the property, X with r is minimal exactly if it has it
    next-minimal : (X : List Rule) (r : Rule) → SetInside (X ++ (r ∷ [])) rules → NoneInside X
        → minimal property (X ++ (r ∷ [])) ≡ property (X ++ (r ∷ []))
    next-minimal X r i none =
        same_answer (minimal property (X ++ (r ∷ []))) (property (X ++ (r ∷ [])))
        (λ m. (minimal-out property (X ++ (r ∷ [])) some m).holds)
        (λ h. minimal-in property (X ++ (r ∷ [])) (record { some = some; holds = h; no_smaller = smaller }))
      where
        some : non_empty (X ++ (r ∷ [])) ≡ true
        some = some-around (end-inside X (r ∷ [])) refl

        smaller : (Y : List Rule) → SetInside Y (X ++ (r ∷ [])) → non_empty Y ≡ true → length Y < length (X ++ (r ∷ [])) → property Y ≡ false
        smaller Y s k l =
            not_yes (property Y) (λ h.
            ⊎_elim
            (λ t. clash h (none Y t k))
            (λ (Z, e, t).
            let shorter : length Z < length X = omega (arith, l, length-append X (r ∷ []), length-append Z (r ∷ []), ap length e) in
            clash (smaller-then X Z r t shorter i (rw e at h)) (none X (Sublistᴰ.refl X) (long-some X (omega (arith, shorter)))))
            (inside-last X s))

    search-from : (X L : List Rule) → SetInside (X ++ L) rules → NoneInside X → found_from property X L ≡ minimal_from X L
    unfolding found_from minimal_from sets_inside
    search-from X [] i none = refl
    search-from X (r ∷ L) i none =
        go (property (X ++ (r ∷ L))) refl (property Y) refl
        (λ f. search-from Y L with-next (λ Z s k. not_yes (property Z) (λ h. clash (grown [] s next-inside h) f)))
        (search-from X L (Sublistᴰ.trans (Sublistᴰ.append (Sublistᴰ.refl X) (Sublistᴰ.cons (Sublistᴰ.refl L))) i) none)
      where
        Y : List Rule
        Y = X ++ (r ∷ [])

        with-next : SetInside (Y ++ L) rules
        with-next = rw (append_assoc X (r ∷ []) L) i

        next-inside : SetInside Y rules
        next-inside = Sublistᴰ.trans (front-inside Y L) with-next

        -- Y is smaller than every set with more rules
        not-with-more : property Y ≡ true → (Z : List Rule) → IsMinimal property (Y ++ Z) → non_empty Z ≡ true → ⊥
        not-with-more h Z least k =
            clash h (least.no_smaller Y (front-inside Y Z) (some-around (end-inside X (r ∷ [])) refl) (omega (arith, length-append Y Z, some-long Z k)))

        go : (a : Bool) → property (X ++ (r ∷ L)) ≡ a → (b : Bool) → property Y ≡ b
            → (property Y ≡ false → found_from property Y L ≡ minimal_from Y L)
            → found_from property X L ≡ minimal_from X L
            → cond a (cond b (Y ∷ []) (found_from property Y L) ++ found_from property X L) [] ≡ minimal_from X (r ∷ L)
        go true e true f taken left =
            rw (from_cons X r L, from-none Y L (λ Z s. not-with-more f Z), next-minimal X r next-inside none ∙ f, left)
        go true e false f taken left =
            rw (from_cons X r L, next-minimal X r next-inside none ∙ f, taken f, left, append-nil)
        go false e b f taken left =
            sym (from-none X (r ∷ L) (λ Z s least k. clash (grown X s i least.holds) e))

pub search-finds-minimal : SearchFindsMinimal
unfolding found_sets minimal_sets minimal_from
search-finds-minimal property rules persists =
    search-from property rules persists [] rules (Sublistᴰ.refl rules) (λ Y s some. clash some (ap non_empty (Sublistᴰ.eq-nil s)))
    ∙ rw map-id
