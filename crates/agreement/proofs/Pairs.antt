-- The excluded pairs of a book in range are at most 16 sets of two signals.
use mathlib.Core.Bool.{true}
use mathlib.Core.List.{List, [], ◌∷◌, map}
use mathlib.Core.Path.{◌≡◌}
use native.Mathlib.Omega.{arith}
use lib.ListN.{length-map}
use Rattle.arith.specs.Members.{Each}
use Rattle.signals.specs.Sets.{is_pair}
use Rattle.signals.proofs.SetOfLaws.{two-signals}
use Rattle.layout.specs.WellFormed.{ArePairs, PairsFit}
use Rattle.peal.specs.Policies.{Exclusion, Book}
use Rattle.translation.specs.Translation.{pair_mask}
use Rattle.book.specs.Ranges.{ExclusionInRange, BookInRange}
use Rattle.book.proofs.RangeLaws.{apart-in-range}

mask-is-pair : (x : Exclusion) → ExclusionInRange x → is_pair (pair_mask x) ≡ true
unfolding pair_mask
mask-is-pair x h = let k = apart-in-range x.first x.second h in two-signals x.first x.second k.first k.second k.apart

masks-are-pairs : (xs : List Exclusion) → Each ExclusionInRange xs → ArePairs (map pair_mask xs)
masks-are-pairs [] h = tt
masks-are-pairs (x ∷ xs) h = (mask-is-pair x h.0, masks-are-pairs xs h.1)

pub pairs-fit : (b : Book) → BookInRange b → PairsFit (map pair_mask b.exclusions)
pairs-fit b h = (masks-are-pairs b.exclusions h.exclusions, omega (arith, length-map b.exclusions pair_mask, h.exclusions_room))
