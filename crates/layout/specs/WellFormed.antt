-- The nodes and the excluded pairs that a sound listing holds.
use Rattle.std.specs.Prelude.{ℕ, ◌+◌, ◌-◌, ◌≤◌, true, List, [], ◌∷◌, ◌≡◌, length}
use Rattle.arith.specs.Members.{Each}
use Rattle.arith.specs.Trees.{Tree, leaf, join, value, joining, postfix}
use Rattle.arith.specs.Leaves.{leaf_count}
use Rattle.signals.specs.Sets.{inside, is_pair}
use Rattle.layout.specs.Records.{Join}
use Rattle.layout.specs.Nodes.{ListedPolicy, ListedNode}

-- each line is a signal set inside the mask
abbrev pub LinesFit : ℕ → List ℕ → Type 0
LinesFit mask [] = Unit {0}
LinesFit mask (l ∷ ls) = (l ≤ 65535) × (inside l mask ≡ true) × LinesFit mask ls

-- the policy's mask is a signal set, and its lines lie inside it
pub record PolicyFits (p : ListedPolicy) : Type 0 where
  pub mask_fits : p.mask ≤ 65535
  pub lines_fit : LinesFit p.mask p.lines

-- policies joined by "and" and "or"
abbrev pub ListedTree : Type 0
ListedTree = Tree Join ListedPolicy

-- every policy of the tree fits
abbrev pub TreeFits : ListedTree → Type 0
TreeFits (leaf p) = PolicyFits p
TreeFits (join j a b) = TreeFits a × TreeFits b

-- a tree that fits, of at most 16 policies, with these nodes
pub record TreeOf (ns : List ListedNode) : Type 0 where
  pub tree : ListedTree
  pub fits : TreeFits tree
  pub at_most : leaf_count tree ≤ 16
  pub same : ns ≡ postfix tree

-- each of these masks is a set of exactly two signals
abbrev pub ArePairs : List ℕ → Type 0
ArePairs pairs = Each (λ (m : ℕ). is_pair m ≡ true) pairs

-- at most 16 such pairs
abbrev pub PairsFit : List ℕ → Type 0
PairsFit pairs = ArePairs pairs × (length pairs ≤ 16)

-- below v values and p policies these nodes fit, have no join without two values and no seventeenth policy, and leave one value
abbrev pub WellFormed : ℕ → ℕ → List ListedNode → Type 0
WellFormed v p [] = v ≡ 1
WellFormed v p (value q ∷ ns) = PolicyFits q × (p + 1 ≤ 16) × WellFormed (v + 1) (p + 1) ns
WellFormed v p (joining j ∷ ns) = (2 ≤ v) × WellFormed (v - 1) p ns
