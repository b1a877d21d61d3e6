-- The excluded pairs from an index on, as the code reads them.
use Prim.Native.Nat.{ℕ, zero, suc, ◌+◌, ◌-◌, ◌*◌, ◌/◌, ◌≤◌, ◌<◌}
use mathlib.Core.Bool.{Bool, true, false}
use mathlib.Core.List.{List, [], ◌∷◌}
use mathlib.Core.Logic.{⊎_elim}
use mathlib.Core.Path.{◌≡◌, refl, sym, ap, subst, ◌∙◌}
use native.Mathlib.Numerals.{add-one}
use native.Mathlib.Omega.{arith}
use lib.Dec.{eqb}
use lib.ListN.{length, get_or}
use borrow.Author.Tests.{eqb-true, eqb-false}
use Rattle.arith.proofs.Members.{each_in, each-out}
use Rattle.arith.proofs.Order.{le-or-lt}
use Rattle.signals.specs.Sets.{is_pair}
use Rattle.signals.proofs.SetOfLaws.{pair_small}
use Rattle.layout.specs.Records.{Kind, policy, line, exclusion, unknown, exclusion_kind, records, kind_of}
use Rattle.layout.specs.Nodes.{pair_then, excluded}
use Rattle.layout.specs.Steps.{records_from}
use Rattle.layout.proofs.KindLaws.{kind-exclusion, Numbered, numbered}
use Rattle.layout.proofs.SoundNodes.{sound-exclusions}
use Rattle.layout.proofs.Places.{from_cons, from-nil}
use Rattle.rod.specs.Values.{mask_at, AllSets}
use Rattle.groups.specs.Groups.{masks_from, MasksAt, SoundWith}
use Rattle.groups.proofs.MaskRuns.{masks-run, masks-at}

pub pair-here : (ws : List ℕ) (i : ℕ) → i < length ws / 4 → get_or ws (i * 4) 0 ≡ 5 → excluded (records_from ws i) ≡ get_or ws (i * 4 + 1) 0 ∷ excluded (records_from ws (i + 1))
unfolding excluded pair_then exclusion_kind
pair-here ws i h e = rw (from_cons ws i h, e, kind-exclusion) refl

pub no-pair-here : (ws : List ℕ) (i : ℕ) → i < length ws / 4 → (get_or ws (i * 4) 0 ≡ 5 → ⊥) → excluded (records_from ws i) ≡ []
unfolding excluded pair_then exclusion_kind
no-pair-here ws i h n = rw (from_cons ws i h) (go (kind_of (get_or ws (i * 4) 0)) (numbered (get_or ws (i * 4) 0)))
  where
    go : (k : Kind) → Numbered k (get_or ws (i * 4) 0) → pair_then k (get_or ws (i * 4 + 1) 0) (excluded (records_from ws (i + 1))) ≡ []
    go exclusion e = absurd (n e)
    go (policy quiet turned) e = refl
    go line e = refl
    go (Kind.join j) e = refl
    go unknown e = refl

pub no-pair-left : (ws : List ℕ) (i : ℕ) → length ws / 4 ≤ i → excluded (records_from ws i) ≡ []
unfolding excluded
no-pair-left ws i h = rw (from-nil ws i h) refl

-- where pairs are left, one stands here
pair_left : (ws : List ℕ) (i : ℕ) → 0 < length (excluded (records_from ws i)) → (i < length ws / 4) × (get_or ws (i * 4) 0 ≡ 5)
pair_left ws i some =
    ⊎_elim
    (λ (l : length ws / 4 ≤ i). absurd (omega (arith, ap length (no-pair-left ws i l))))
    (λ (l : i < length ws / 4). (l, go (eqb (get_or ws (i * 4) 0) 5) refl l))
    (le-or-lt (length ws / 4) i)
  where
    go : (b : Bool) → eqb (get_or ws (i * 4) 0) 5 ≡ b → i < length ws / 4 → get_or ws (i * 4) 0 ≡ 5
    go true e l = eqb-true _ _ e
    go false e l = absurd (omega (arith, ap length (no-pair-here ws i l (eqb-false _ _ e))))

-- the pairs' masks, as the records have them
module _ (ws : List ℕ) (pairs : ℕ) (s : SoundWith ws pairs) where
  pair-more : (i : ℕ) → 0 < length (excluded (records_from ws i)) → (i < length ws / 4) × (excluded (records_from ws i) ≡ mask_at ws i ∷ excluded (records_from ws (i + 1)))
  pair-more i some = let p = pair_left ws i some in (p.0, pair-here ws i p.0 p.1)

  count : pairs ≡ 0 + length (excluded (records_from ws 0))
  unfolding records_from
  count = omega (arith, s.1)

  sets : AllSets (excluded (records_from ws 0))
  unfolding records_from
  sets = each_in (λ (m : ℕ). m ≤ 65535) (excluded (records ws)) (λ pair m. pair_small pair (each-out (λ (p : ℕ). is_pair p ≡ true) (sound-exclusions ws s.0).0 m))

  pub pair-masks : MasksAt ws 0 pairs
  pair-masks = masks-at ws (λ i. excluded (records_from ws i)) pair-more 0 pairs count (omega arith) sets

  pub pair-run : excluded (records ws) ≡ masks_from ws 0 (pairs - 0)
  unfolding records_from
  pair-run = masks-run ws (λ i. excluded (records_from ws i)) pair-more 0 pairs count

  -- each of the records before the nodes is an exclusion
  still : (n : ℕ) → n ≤ pairs → n + length (excluded (records_from ws n)) ≡ pairs
  still zero h = omega (arith, count)
  still (suc n) h =
      let e = still n (omega arith) in
      let m = pair-more n (omega arith) in
      let l : length (excluded (records_from ws n)) ≡ suc (length (excluded (records_from ws (n + 1)))) = ap length m.1 in
      subst (λ (x : ℕ). x + length (excluded (records_from ws x)) ≡ pairs) (add-one n) (omega arith)

  pub pair-kind : (n : ℕ) → n < pairs → (n < length ws / 4) × (exclusion ≡ kind_of (get_or ws (n * 4) 0))
  unfolding exclusion_kind
  pair-kind n h = let p = pair_left ws n (omega (arith, still n (omega arith))) in (p.0, sym (ap kind_of p.1 ∙ kind-exclusion))
