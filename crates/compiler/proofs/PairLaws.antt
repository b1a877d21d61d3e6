-- The records of the exclusions, one after the other.
use Prim.Native.Nat.{ℕ, ◌+◌, ◌≤◌, ◌<◌}
use mathlib.Core.Bool.{not, ◌&&◌}
use mathlib.Core.List.{List, ◌∷◌, map}
use mathlib.Core.Path.{◌≡◌, sym, ap, ◌∙◌}
use native.Mathlib.Numerals.{add-one}
use lib.Dec.{leb, eqb}
use lib.ListN.{length, get_or, drop, drop_of_length-le}
use lib.Seq.{drop-cons}
use borrow.Author.Tests.{leb-true}
use Rattle.arith.proofs.Tests.{and_left, and_right}
use Rattle.layout.specs.Records.{exclusion_kind}
use Rattle.layout.specs.Nodes.{exclusion_records}
use Rattle.layout.specs.Writing.{put_record, put_records}
use Rattle.peal.specs.Policies.{Exclusion}
use Rattle.translation.specs.Translation.{pair_mask}
use Rattle.peal.specs.Standins.{no_exclusion}
use Rattle.book.specs.Ranges.{ExclusionInRange}

-- the two signals of an exclusion are two of 16
pub pair-small : (x : Exclusion) → ExclusionInRange x → (x.first ≤ 15) × (x.second ≤ 15)
pair-small x range =
    let both = and_left (leb x.first 15 && leb x.second 15) (not (eqb x.first x.second)) range in
    (leb-true x.first 15 (and_left (leb x.first 15) (leb x.second 15) both), leb-true x.second 15 (and_right (leb x.first 15) (leb x.second 15) both))

-- writing the records of the exclusions from i on makes what writing all of them makes
abbrev pub PairsTo : List Exclusion → ℕ → (lent words : List ℕ) → Type 0
PairsTo xs i lent words = put_records words (i + 1) (exclusion_records (i + 1) (map pair_mask (drop i xs))) ≡ put_records lent 1 (exclusion_records 1 (map pair_mask xs))

module _ (xs : List Exclusion) (i : ℕ) (lent words : List ℕ) where
  pub pairs-turn : i < length xs → (mask : ℕ) → mask ≡ pair_mask (get_or xs i no_exclusion) → (later : List ℕ)
      → later ≡ put_record words (i + 1) (record { kind = 5; mask = mask; lines = 0; next = i + 1 + 1 }) → PairsTo xs i lent words → PairsTo xs (i + 1) lent later
  unfolding put_records exclusion_records exclusion_kind
  pairs-turn h mask e later f g =
      let next = i + 1 + 1 in
      let rest = exclusion_records next (map pair_mask (drop (i + 1) xs)) in
      ap (λ (w : List ℕ). put_records w next rest) (f ∙ ap (λ (m : ℕ). put_record words (i + 1) (record { kind = 5; mask = m; lines = 0; next = next })) e)
      ∙ sym (ap (λ (l : List Exclusion). put_records words (i + 1) (exclusion_records (i + 1) (map pair_mask l))) (drop-cons xs i no_exclusion h ∙ ap (λ (j : ℕ). get_or xs i no_exclusion ∷ drop j xs) (sym (add-one i))))
      ∙ g

  pub pairs_end : length xs ≤ i → PairsTo xs i lent words → words ≡ put_records lent 1 (exclusion_records 1 (map pair_mask xs))
  unfolding put_records exclusion_records
  pairs_end h g =
      sym (ap (λ (l : List Exclusion). put_records words (i + 1) (exclusion_records (i + 1) (map pair_mask l))) (drop_of_length-le xs {i = i} h)) ∙ g
