-- A condition's listing has few records: a policy's record and its lines for each mention, and a record for each join.
use Prim.Native.Nat.{ℕ, ◌+◌, ◌*◌, ◌≤◌}
use mathlib.Core.List.{List, [], ◌∷◌, ◌++◌, map}
use mathlib.Core.Path.{◌≡◌, refl}
use native.Mathlib.Nat.{mul-le-mul_right}
use native.Mathlib.Omega.{arith}
use lib.IntN.{ℤ}
use lib.ListN.{length, length-append, length-map}
use Rattle.arith.specs.Trees.{Tree, leaf, join, value, joining, postfix, map_tree, tree_value}
use Rattle.arith.proofs.Each.{each-default}
use Rattle.layout.specs.Records.{Join}
use Rattle.layout.specs.Nodes.{ListedPolicy, ListedNode, line_records, node_records, exclusion_records, listing}
use Rattle.arith.specs.Leaves.{leaf_count}
use Rattle.layout.proofs.WordsBelow.{lines-count, exclusions-count}
use Rattle.peal.specs.Policies.{Policy, empty_policy, policy_at, mask_of}
use Rattle.peal.specs.Lines.{lines}
use Rattle.translation.specs.Translation.{join_of, listed, translated, pair_mask, listing_records}
use Rattle.translation.specs.RecordsAreFew.{RecordsAreFew}
use Rattle.peal.specs.declared.Sense.{Sense}
use Rattle.peal.proofs.LineLaws.{lines-are-few}

-- the records of some nodes
abbrev record_count : List ListedNode → ℕ
record_count [] = 0
record_count (value p ∷ ns) = 1 + length p.lines + record_count ns
record_count (joining j ∷ ns) = 1 + record_count ns

count-records : (n : ℕ) (ns : List ListedNode) → length (node_records n ns) ≡ record_count ns
unfolding node_records
count-records n [] = refl
count-records n (value p ∷ ns) =
    let next = n + 1 + length p.lines in
    omega (arith, length-append (line_records (n + 1) p.lines) (node_records next ns), lines-count (n + 1) p.lines, count-records next ns)
count-records n (joining j ∷ ns) = omega (arith, count-records (n + 1) ns)

count-append : (ns ms : List ListedNode) → record_count (ns ++ ms) ≡ record_count ns + record_count ms
count-append [] ms = omega arith
count-append (value p ∷ ns) ms = omega (arith, count-append ns ms)
count-append (joining j ∷ ns) ms = omega (arith, count-append ns ms)

-- a tree whose policies have at most m lines each
module _ {J L : Type 0} (on_join : J → Join) (on_leaf : L → ListedPolicy) (m : ℕ) (few : (l : L) → length (on_leaf l).lines ≤ m) where
  count-tree : (t : Tree J L) → record_count (postfix (map_tree on_join on_leaf t)) + 1 ≤ leaf_count (map_tree on_join on_leaf t) * (m + 2)
  unfolding postfix map_tree tree_value leaf_count
  count-tree (leaf l) = omega (arith, few l)
  count-tree (join j a b) =
      let A = postfix (map_tree on_join on_leaf a) in
      let B = postfix (map_tree on_join on_leaf b) in
      omega (arith, count-tree a, count-tree b, count-append A (B ++ (joining (on_join j) ∷ [])), count-append B (joining (on_join j) ∷ []))

listed-few : (s : Sense) (t : ℤ) (p : Policy) → length p.rules ≤ 16 → length (listed s t p).lines ≤ 65536
unfolding listed
listed-few s t p h =
    omega (arith, length-map (lines p.operator t p.rules) mask_of, (lines-are-few p.operator t p.rules).of_sixteen h)

pub records-are-few : RecordsAreFew
unfolding listing_records listing translated policy_at empty_policy
records-are-few b c rules pairs mentions =
    omega (
      arith,
      length-append (exclusion_records 1 masks) (node_records (1 + length masks) (postfix (translated b.policies c))),
      exclusions-count 1 masks,
      length-map b.exclusions pair_mask,
      count-records (1 + length masks) (postfix (translated b.policies c)),
      count-tree (join_of c.sense) (λ n. listed c.sense c.threshold (policy_at b.policies n)) 65536 each c.expression,
      mul-le-mul_right (65536 + 2) mentions,
    )
  where
    masks : List ℕ
    masks = map pair_mask b.exclusions

    each : (n : ℕ) → length (listed c.sense c.threshold (policy_at b.policies n)).lines ≤ 65536
    each n =
        listed-few c.sense c.threshold (policy_at b.policies n)
        (each-default (λ (p : Policy). length p.rules ≤ 16) b.policies n empty_policy rules (omega arith))
