-- What a condition becomes in a listing (document 01, "From condition to listing"; change request 1 for the excluded pairs).
use Rattle.std.specs.Prelude.{ℕ, Bool, not, List, [], ◌∷◌, map, ℤ}
use Rattle.arith.specs.Trees.{Tree, postfix, map_tree}
use Rattle.signals.specs.Sets.{set_of}
use Rattle.layout.specs.Records.{Record, Join, and, or}
use Rattle.layout.specs.Nodes.{ListedPolicy, listing}
use Rattle.peal.specs.Policies.{Policy, MinMax, smaller, larger, Exclusion, Condition, Book, policy_at, mask_of}
use Rattle.peal.specs.Score.{scaled, meets}
use Rattle.peal.specs.Ranking.{rises}
use Rattle.peal.specs.Lines.{lines}
use Rattle.peal.specs.declared.Operator.{Operator}
use Rattle.peal.specs.declared.Sense.{Sense}
use Rattle.peal.specs.declared.Sense.TheVariants.{Above, AtMost}

-- for `<`, min of two sets becomes "and", max becomes "or"; for `>=` the reverse
unfoldable pub join_of : Sense → MinMax → Join
join_of Above smaller = and
join_of Above larger = or
join_of AtMost smaller = or
join_of AtMost larger = and

-- quiet is 1 if D meets the condition
unfoldable pub quiet : Sense → ℤ → Policy → Bool
quiet s t p = meets s t (scaled p.default)

-- turned is 1 for sum and max under `>=`, and for mul and min under `<`
unfoldable pub turned : Sense → Operator → Bool
turned AtMost op = rises op
turned Above op = not (rises op)

-- the record of a mention: flags, the mask of all the policy's signals, its lines
unfoldable pub listed : Sense → ℤ → Policy → ListedPolicy
listed s t p =
    let sets = lines p.operator t p.rules in
    record { quiet = quiet s t p; turned = turned s p.operator; mask = mask_of p.rules; lines = map mask_of sets }

-- the tree of a condition
unfoldable pub translated : List Policy → Condition → Tree Join ListedPolicy
translated ps c = map_tree (join_of c.sense) (λ n. listed c.sense c.threshold (policy_at ps n)) c.expression

-- the mask of an excluded pair
unfoldable pub pair_mask : Exclusion → ℕ
pair_mask x = set_of (x.first ∷ x.second ∷ [])

-- the records of a condition's listing: the excluded pairs of the book in book order, then the nodes
unfoldable pub listing_records : Book → Condition → List Record
listing_records b c = listing (map pair_mask b.exclusions) (postfix (translated b.policies c))
