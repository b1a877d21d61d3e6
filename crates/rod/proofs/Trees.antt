-- The rod's answer on the listing of a tree is the tree's value; every sound listing is such a listing.
use Prim.Native.Nat.{ℕ, ◌≤◌}
use mathlib.Core.Bool.{Bool, false}
use mathlib.Core.List.{List, [], append-nil}
use mathlib.Core.Path.{◌≡◌, refl, sym, ap, ◌∙◌}
use lib.ListN.{get_or}
use Rattle.answers.specs.Answers.{result}
use Rattle.arith.specs.Trees.{postfix, tree_value, run}
use Rattle.arith.proofs.Trees.{run-tree}
use Rattle.arith.specs.Leaves.{leaf_count}
use Rattle.layout.specs.Records.{words}
use Rattle.layout.specs.Nodes.{ListedNode, listing}
use Rattle.layout.specs.WellFormed.{ListedTree, TreeFits, PairsFit}
use Rattle.layout.proofs.Soundness.{tree-sound}
use Rattle.layout.proofs.ListedLaws.{nodes-listing}
use Rattle.rod.specs.Reading.{policy_value, joined, says, rod_answer}
use Rattle.rod.specs.SoundReading.{SoundReading}

reading-tree : (t : ListedTree) (set : ℕ) → get_or (run joined (policy_value set) (postfix t) []) 0 false ≡ tree_value joined (policy_value set) t
unfolding run
reading-tree t set =
    ap (λ (values : List Bool). get_or values 0 false)
    (ap (λ (ns : List ListedNode). run joined (policy_value set) ns []) (sym (append-nil (postfix t))) ∙ run-tree joined (policy_value set) t [] [])

-- on the listing of a tree that fits, with at most 16 policies and any pairs, the rod gives the tree's value
pub rod-tree : (pairs : List ℕ) (t : ListedTree) (set : ℕ) → PairsFit pairs → TreeFits t → leaf_count t ≤ 16
    → rod_answer (words (listing pairs (postfix t))) set ≡ result (tree_value joined (policy_value set) t)
unfolding rod_answer says
rod-tree pairs t set fit fits room = rw (tree-sound pairs t fit fits room, nodes-listing, reading-tree) refl

-- on any sound listing it gives the value of the tree whose nodes are read from it
pub sound-reading : SoundReading
unfolding rod_answer says
sound-reading ws h of set = rw (h, of.same, reading-tree) refl
