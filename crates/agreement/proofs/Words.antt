-- The words of a condition's listing fit 32 bits: it has few records.
use Prim.Native.Nat.{◌^◌, ◌≤◌}
use mathlib.Core.List.{map}
use native.Mathlib.Omega.{arith}
use lib.Dec.{lit≤}
use lib.ListN.{length}
use Rattle.arith.specs.Trees.{postfix}
use Rattle.arith.proofs.Members.{each_in, each-out}
use Rattle.layout.proofs.Soundness.{tree-nodes}
use Rattle.layout.proofs.WordsBelow.{listing-below}
use Rattle.peal.specs.Policies.{Policy}
use Rattle.translation.specs.Translation.{translated, pair_mask, listing_records}
use Rattle.translation.proofs.RecordCount.{records-are-few}
use Rattle.book.specs.Ranges.{PolicyInRange}
use Rattle.book.proofs.RangeLaws.{rules-at-most}
use Rattle.agreement.specs.WordsFit.{WordsFit}
use Rattle.agreement.proofs.Pairs.{pairs-fit}
use Rattle.agreement.proofs.Conditions.{condition-fits, condition-policies}

pub words-fit : WordsFit
unfolding listing_records
words-fit b c range room =
    let few = condition-policies b c room in
    let rules = each_in (λ (p : Policy). length p.rules ≤ 16) b.policies (λ p m. rules-at-most p (each-out PolicyInRange range.policies m)) in
    listing-below (2 ^ 32) (lit≤ tt) (map pair_mask b.exclusions) (postfix (translated b.policies c)) (pairs-fit b range)
    (tree-nodes (translated b.policies c) (condition-fits b c range.policies) few)
    (omega (arith, records-are-few b c rules range.exclusions_room few))
