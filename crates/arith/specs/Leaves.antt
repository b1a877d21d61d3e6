-- How many leaves a tree has, and that its nodes, taken one after the other, leave one value.
use Rattle.std.specs.Prelude.{ℕ, ◌+◌, ◌-◌, ◌≤◌, List, [], ◌∷◌, ◌≡◌}
use Rattle.arith.specs.Trees.{Tree, leaf, join, Node, value, joining}

module _ {J L : Type 0} where
  -- how many leaves a tree has
  unfoldable pub leaf_count : Tree J L → ℕ
  leaf_count (leaf l) = 1
  leaf_count (join j a b) = leaf_count a + leaf_count b

  -- taken one after the other from n values on, each join finds two values, and one value is left
  abbrev pub LeavesOne : List (Node J L) → ℕ → Type 0
  LeavesOne [] n = n ≡ 1
  LeavesOne (value l ∷ ns) n = LeavesOne ns (n + 1)
  LeavesOne (joining j ∷ ns) n = (2 ≤ n) × LeavesOne ns (n - 1)
