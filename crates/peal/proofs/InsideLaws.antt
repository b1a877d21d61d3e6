-- Inside a non-empty set that has a property lies a minimal one; so the minimal sets decide a property that adding rules keeps, and the lines decide theirs.
use Prim.Native.Nat.{ℕ, zero, suc, ◌<◌}
use mathlib.Core.Bool.{Bool, true, false, ◌&&◌, and_assoc}
use mathlib.Core.List.Sublistᴰ
use mathlib.Core.List.{List, []}
use mathlib.Core.Path.{◌≡◌, refl, sym, ap, ap₂, ◌∙◌}
use native.Mathlib.Omega.{arith}
use lib.IntN.{ℤ}
use lib.ListN.{length}
use Rattle.arith.specs.Lists.{every, exists, keep, non_empty, subsets}
use Rattle.arith.proofs.EveryExists.{exists-in, exists-out, exists-keep, exists-same}
use Rattle.arith.proofs.NonEmpty.{some-around}
use Rattle.arith.proofs.Reordering.{keep-reordered, some-reordered}
use Rattle.arith.proofs.Sublists.{keep-inside}
use Rattle.arith.proofs.SubsetTests.{subsets-kept}
use Rattle.arith.proofs.Tests.{clash, same_answer, not_yes, and_left, and_right}
use Rattle.signals.specs.Sets.{present}
use Rattle.peal.specs.Policies.{Rule}
use Rattle.peal.specs.Score.{present_rules}
use Rattle.peal.specs.Ranking.{ranked}
use Rattle.peal.specs.Lines.{sets_inside, smaller_sets, minimal, minimal_sets, has}
use Rattle.peal.specs.SetsOfRules.{SetInside}
use Rattle.peal.proofs.MinimalSets.{IsMinimal, inside-in, inside-out, smaller-in, smaller-out, minimal-out, minimal-in}
use Rattle.peal.specs.Presence.{all_present}
use Rattle.peal.specs.SearchFindsLines.{RulesFit}
use Rattle.peal.specs.MinimalSetsDecide.{AddingKeeps, MinimalSetsDecide}
use Rattle.peal.specs.OrderDoesNotMatter.{OrderDoesNotMatter}
use Rattle.peal.specs.LinesDecide.{LinesDecide}
use Rattle.peal.specs.declared.Operator.{Operator}
use Rattle.peal.proofs.HavingLaws.{has-reordered}
use Rattle.peal.proofs.PersistLaws.{has-persists}
use Rattle.peal.proofs.RankLaws.{ranked-reordered}
use Rattle.peal.proofs.SearchLaws.{grown}
use Rattle.peal.proofs.SingleLaws.{lines-minimal}

module _ (property : List Rule → Bool) where
  -- a minimal set lies inside X
  abbrev MinimalInside : List Rule → Type 0
  MinimalInside X = (Y : List Rule) × SetInside Y X × IsMinimal property Y

  -- n bounds the size of X
  minimal-inside : (n : ℕ) (X : List Rule) → length X < n → non_empty X ≡ true → property X ≡ true → MinimalInside X
  minimal-inside zero X l some h = absurd (omega arith)
  minimal-inside (suc n) X l some h = go (exists property (smaller_sets X)) refl (λ Y k. minimal-inside n Y (omega arith))
    where
      go : (t : Bool) → exists property (smaller_sets X) ≡ t → ((Y : List Rule) → length Y < length X → non_empty Y ≡ true → property Y ≡ true → MinimalInside Y)
          → MinimalInside X
      go true e deeper =
          let (Y, m, y) = exists-out property (smaller_sets X) e in
          let (s, k, shorter) = smaller-out X Y m in
          let (Z, t, least) = deeper Y shorter k y in
          (Z, Sublistᴰ.trans {l₁ = Z} {l₂ = Y} t s, least)
      go false e deeper = (
        X,
        Sublistᴰ.refl X,
        record { some = some; holds = h; no_smaller = λ Y s k l. not_yes (property Y) (λ y. clash (exists-in property (smaller-in X Y s k l) y) e) },
      )

  -- some set inside X is minimal exactly if X is not empty and has the property
  some-minimal : (X : List Rule) → AddingKeeps property X → exists (minimal property) (sets_inside X) ≡ (non_empty X && property X)
  some-minimal X keeps = same_answer (exists (minimal property) (sets_inside X)) (non_empty X && property X) to from
    where
      to : exists (minimal property) (sets_inside X) ≡ true → (non_empty X && property X) ≡ true
      to h =
          let (Y, m, k) = exists-out (minimal property) (sets_inside X) h in
          let (s, some) = inside-out X m in
          rw (some-around s some) (keeps Y s (minimal-out property Y some k).holds)

      from : (non_empty X && property X) ≡ true → exists (minimal property) (sets_inside X) ≡ true
      from h =
          let (Y, s, least) = minimal-inside (suc (length X)) X (omega arith) (and_left (non_empty X) (property X) h) (and_right (non_empty X) (property X) h) in
          exists-in (minimal property) (inside-in s least.some) (minimal-in property Y least)

  -- some minimal set of the rules has rules of one kind alone: some set of the rules of that kind is minimal
  minimal-kept : (kind : Rule → Bool) (rules : List Rule)
      → exists (every kind) (minimal_sets property rules) ≡ exists (minimal property) (sets_inside (keep kind rules))
  unfolding minimal_sets sets_inside
  minimal-kept kind rules =
      exists-keep (every kind) (minimal property) (sets_inside rules)
      ∙ exists-keep (λ Y. minimal property Y && every kind Y) non_empty (subsets rules)
      ∙ exists-same (λ Y. non_empty Y && (minimal property Y && every kind Y)) (λ Y. (non_empty Y && minimal property Y) && every kind Y) (subsets rules)
      (λ Y m. sym (and_assoc (non_empty Y) (minimal property Y) (every kind Y)))
      ∙ subsets-kept kind (λ Y. non_empty Y && minimal property Y) rules
      ∙ sym (exists-keep (minimal property) non_empty (subsets (keep kind rules)))

pub minimal-sets-decide : MinimalSetsDecide
unfolding present_rules all_present
minimal-sets-decide property rules set keeps =
    minimal-kept property (λ r. present set r.signal) rules ∙ some-minimal property (present_rules set rules) keeps

-- ---- the lines

pub order-does-not-matter : OrderDoesNotMatter
order-does-not-matter o t X Y d = has-reordered o t d

module _ (o : Operator) (t : ℤ) (rules : List Rule) (set : ℕ) where
  -- there are present rules and they have the property, in rank order exactly if in book order
  ranked-has : (non_empty (present_rules set (ranked o rules)) && has o t (present_rules set (ranked o rules)))
      ≡ (non_empty (present_rules set rules) && has o t (present_rules set rules))
  unfolding present_rules
  ranked-has =
      let d = keep-reordered (λ r. present set r.signal) (ranked-reordered o rules) in
      ap₂ (λ (a b : Bool). a && b) (some-reordered d) (order-does-not-matter o t (present_rules set (ranked o rules)) (present_rules set rules) d)

  adding-keeps : RulesFit o rules → AddingKeeps (has o t) (present_rules set (ranked o rules))
  unfolding present_rules
  adding-keeps fit Y s h = grown (has o t) (ranked o rules) (has-persists o t rules fit) [] s (keep-inside (λ r. present set r.signal) (ranked o rules)) h

pub lines-decide : LinesDecide
lines-decide o t rules set fit =
    ap (exists (all_present set)) (lines-minimal o t rules)
    ∙ minimal-sets-decide (has o t) (ranked o rules) set (adding-keeps o t rules set fit)
    ∙ ranked-has o t rules set
