-- Masks say which rules are present; and each line's mask lies inside its policy's.
use Prim.Native.Nat.{ℕ, ◌+◌, ◌≤◌, ◌<◌}
use mathlib.Core.Bool.{true}
use mathlib.Core.List.Permᴰ
use mathlib.Core.List.{List, [], ◌∷◌, ◌++◌, map, map-append}
use mathlib.Core.Path.{◌≡◌, sym, ap, subst, ◌∙◌}
use native.Mathlib.Omega.{arith}
use lib.IntN.{ℤ}
use Rattle.arith.specs.Lists.{exists}
use Rattle.arith.specs.Members.{Each, Among}
use Rattle.arith.proofs.EveryExists.{exists-same, exists-map, every_map}
use Rattle.arith.proofs.Distinct.{distinct-reordered, distinct-inside}
use Rattle.arith.proofs.Members.{every-each, each-every}
use Rattle.arith.proofs.Reordering.{each-reordered}
use Rattle.arith.proofs.Sublists.{each-inside, inside-map}
use Rattle.signals.specs.Sets.{present, inside, set_of}
use Rattle.signals.proofs.SetOfLaws.{set_below, inside-set, overlap-set, inside-self}
use Rattle.peal.specs.Policies.{Rule, mask_of}
use Rattle.peal.specs.Ranking.{ranked}
use Rattle.peal.specs.Lines.{lines, has}
use Rattle.peal.specs.SetsOfRules.{SetInside}
use Rattle.peal.specs.Presence.{all_present, some_present}
use Rattle.peal.specs.MasksDecide.{SignalsFit, MasksDecide}
use Rattle.peal.specs.declared.Operator.{Operator}
use Rattle.peal.proofs.MinimalSets.{minimal-sets}
use Rattle.peal.proofs.RankLaws.{ranked-reordered}
use Rattle.peal.proofs.SingleLaws.{lines-minimal}

abbrev signal_of : Rule → ℕ
signal_of r = r.signal

pub masks-decide : MasksDecide
unfolding mask_of all_present some_present
masks-decide X set h = (
  inside-set (map signal_of X) h.below h.different set ∙ every_map signal_of (present set) X,
  overlap-set (map signal_of X) h.below h.different set ∙ exists-map signal_of (present set) X,
)

-- ---- rules in another order, and fewer rules

pub ranked-fit : (o : Operator) (rules : List Rule) → SignalsFit rules → SignalsFit (ranked o rules)
ranked-fit o rules h =
    let d = Permᴰ.map signal_of (Permᴰ.symm (ranked-reordered o rules)) in
    record { below = each-reordered (λ (s : ℕ). s < 16) d h.below; different = distinct-reordered d h.different }

pub fewer-fit : {Y X : List Rule} → SetInside Y X → SignalsFit X → SignalsFit Y
fewer-fit s h =
    record { below = each-inside (λ (s : ℕ). s < 16) (inside-map signal_of s) h.below; different = distinct-inside (inside-map signal_of s) h.different }

-- ---- the masks of a policy's lines

module _ (o : Operator) (t : ℤ) (rules : List Rule) where
  line-inside : (L : List Rule) → Among L (lines o t rules) → SetInside L (ranked o rules)
  line-inside L m = ((minimal-sets (has o t) (ranked o rules) L).0 (subst (Among L) (lines-minimal o t rules) m)).0

  module _ (h : SignalsFit rules) where
    line-fits : (L : List Rule) → Among L (lines o t rules) → SignalsFit L
    line-fits L m = fewer-fit (line-inside L m) (ranked-fit o rules h)

    -- some line's mask lies inside the set exactly if every rule of some line is present
    pub masks-inside : (set : ℕ) → exists (λ l. inside l set) (map mask_of (lines o t rules)) ≡ exists (all_present set) (lines o t rules)
    masks-inside set =
        exists-map mask_of (λ l. inside l set) (lines o t rules)
        ∙ exists-same (λ L. inside (mask_of L) set) (all_present set) (lines o t rules) (λ L m. (masks-decide L set (line-fits L m)).0)

-- ---- each line's mask is a signal set inside the policy's mask

pub mask_fits : (X : List Rule) → SignalsFit X → mask_of X ≤ 65535
unfolding mask_of
mask_fits X h = omega (arith, set_below 16 (map signal_of X) h.below h.different)

abbrev pub MaskFits : ℕ → List Rule → Type 0
MaskFits mask L = (mask_of L ≤ 65535) × (inside (mask_of L) mask ≡ true)

module _ (o : Operator) (t : ℤ) (rules : List Rule) (h : SignalsFit rules) where
  -- a rule is present in the policy's mask
  abbrev InMask : Rule → Type 0
  InMask r = present (mask_of rules) r.signal ≡ true

  rules-in-mask : Each InMask (ranked o rules)
  unfolding all_present
  rules-in-mask =
      each-reordered InMask (Permᴰ.symm (ranked-reordered o rules))
      (each-every (λ r. present (mask_of rules) r.signal) rules (sym (masks-decide rules (mask_of rules) h).0 ∙ inside-self (mask_of rules)))

  pub mask-of-line : (L : List Rule) → Among L (lines o t rules) → MaskFits (mask_of rules) L
  unfolding all_present
  mask-of-line L m =
      let fits = line-fits o t rules h L m in (
        mask_fits L fits,
        (masks-decide L (mask_of rules) fits).0 ∙ every-each (λ r. present (mask_of rules) r.signal) L (each-inside InMask (line-inside o t rules L m) rules-in-mask),
      )

-- ---- one rule more

sets_more : (ss : List ℕ) (s : ℕ) → set_of ss + set_of (s ∷ []) ≡ set_of (ss ++ (s ∷ []))
unfolding set_of
sets_more [] s = omega arith
sets_more (x ∷ ss) s = omega (arith, sets_more ss s)

pub mask-more : (rules : List Rule) (r : Rule) → mask_of rules + set_of (r.signal ∷ []) ≡ mask_of (rules ++ (r ∷ []))
unfolding mask_of
mask-more rules r = sets_more (map signal_of rules) r.signal ∙ ap set_of (sym (map-append signal_of rules (r ∷ [])))
