-- Taking a tree's nodes in the order left, right, join leaves the tree's value, whatever the values are.
use Prim.Native.Nat.{ℕ, ◌+◌, ◌-◌, ◌≤◌}
use mathlib.Core.List.{List, [], ◌∷◌, ◌++◌, append_assoc}
use mathlib.Core.Path.{◌≡◌, refl, subst, ◌∙◌}
use native.Mathlib.Omega.{arith}
use lib.ListN.{length}
use Rattle.arith.specs.Trees.{Tree, leaf, join, Node, value, joining, postfix, tree_value, joined_last, run}
use Rattle.arith.specs.Leaves.{LeavesOne}

module _ {J L A : Type 0} (on_join : J → A → A → A) (on_leaf : L → A) where
  pub run-tree : (t : Tree J L) (ns : List (Node J L)) (values : List A)
      → run on_join on_leaf (postfix t ++ ns) values ≡ run on_join on_leaf ns (tree_value on_join on_leaf t ∷ values)
  unfolding postfix run joined_last tree_value
  run-tree (leaf l) ns values = refl
  run-tree (join j a b) ns values =
      rw (append_assoc (postfix a) (postfix b ++ (joining j ∷ [])) ns, append_assoc (postfix b) (joining j ∷ []) ns)
      (run-tree a (postfix b ++ (joining j ∷ ns)) values ∙ run-tree b (joining j ∷ ns) (tree_value on_join on_leaf a ∷ values))

module _ {J L : Type 0} where
  pub tree-leaves-one : (t : Tree J L) (ns : List (Node J L)) (n : ℕ) → LeavesOne ns (n + 1) → LeavesOne (postfix t ++ ns) n
  unfolding postfix
  tree-leaves-one (leaf l) ns n h = h
  tree-leaves-one (join j a b) ns n h =
      rw (append_assoc (postfix a) (postfix b ++ (joining j ∷ [])) ns, append_assoc (postfix b) (joining j ∷ []) ns)
      (tree-leaves-one a (postfix b ++ (joining j ∷ ns)) n
      (tree-leaves-one b (joining j ∷ ns) (n + 1) (omega arith, subst (LeavesOne ns) (omega arith) h)))

  -- each join takes one value away, so there are few to begin with
  pub few-values : (ns : List (Node J L)) (n : ℕ) → LeavesOne ns n → n ≤ length ns + 1
  few-values [] n h = omega arith
  few-values (value l ∷ ns) n h = omega (arith, few-values ns (n + 1) h)
  few-values (joining j ∷ ns) n h = omega (arith, h.0, few-values ns (n - 1) h.1)
