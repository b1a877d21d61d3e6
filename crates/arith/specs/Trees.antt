-- Binary trees, and their nodes in the order left, right, join.
use Rattle.std.specs.Prelude.{List, [], ◌∷◌, ◌++◌}

-- a tree with leaves of the type L and joins of the type J
pub data Tree (J L : Type 0) : Type 0 where
  leaf : L → Tree J L
  join : J → Tree J L → Tree J L → Tree J L

-- one node of a tree
pub data Node (J L : Type 0) : Type 0 where
  value : L → Node J L
  joining : J → Node J L

module _ {J L : Type 0} where
  -- the nodes of a tree in the order left, right, join
  unfoldable pub postfix : Tree J L → List (Node J L)
  postfix (leaf l) = value l ∷ []
  postfix (join j a b) = postfix a ++ (postfix b ++ (joining j ∷ []))

module _ {J L A : Type 0} (on_join : J → A → A → A) (on_leaf : L → A) where
  -- the value of a tree, from what a leaf is worth and what a join makes of two values
  unfoldable pub tree_value : Tree J L → A
  tree_value (leaf l) = on_leaf l
  tree_value (join j a b) = on_join j (tree_value a) (tree_value b)

  -- a join takes the last two values, the last first, and leaves one; with fewer there is nothing to take
  unfoldable pub joined_last : J → List A → List A
  joined_last j [] = []
  joined_last j (b ∷ []) = []
  joined_last j (b ∷ a ∷ values) = on_join j a b ∷ values

  -- the values left, the last first, when nodes are taken one after the other
  unfoldable pub run : List (Node J L) → List A → List A
  run [] values = values
  run (value l ∷ ns) values = run ns (on_leaf l ∷ values)
  run (joining j ∷ ns) values = run ns (joined_last j values)

-- a tree of the same shape
unfoldable pub map_tree : {J K L M : Type 0} → (J → K) → (L → M) → Tree J L → Tree K M
map_tree on_join on_leaf tree = tree_value (λ j. join (on_join j)) (λ l. leaf (on_leaf l)) tree
