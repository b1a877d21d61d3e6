-- Claimed: what every sound listing is, and which listings are sound. Proved in proofs/SoundListings.antt.
use Rattle.std.specs.Prelude.{ℕ, ◌≤◌, List, ◌≡◌}
use Rattle.answers.specs.Answers.{result}
use Rattle.arith.specs.Trees.{postfix}
use Rattle.arith.specs.Leaves.{leaf_count}
use Rattle.layout.specs.Records.{words, records}
use Rattle.layout.specs.Judgement.{verdict}
use Rattle.layout.specs.Nodes.{listing, nodes, excluded}
use Rattle.layout.specs.WellFormed.{ListedTree, TreeFits, TreeOf, PairsFit}

pub record SoundListings : Type 0 where
  -- word for word it is the listing of the excluded pairs and the nodes that are read from it
  pub itself : (ws : List ℕ) → verdict ws ≡ result tt → ws ≡ words (listing (excluded (records ws)) (nodes (records ws)))
  -- these are at most 16 pairs, each of exactly two signals
  pub pairs : (ws : List ℕ) → verdict ws ≡ result tt → PairsFit (excluded (records ws))
  -- and the nodes of one tree of at most 16 policies, whose masks are signal sets and hold their lines
  pub tree : (ws : List ℕ) → verdict ws ≡ result tt → TreeOf (nodes (records ws))
  -- the listing of any such pairs and tree is sound
  pub sound : (pairs : List ℕ) (tree : ListedTree) → PairsFit pairs → TreeFits tree → leaf_count tree ≤ 16
      → verdict (words (listing pairs (postfix tree))) ≡ result tt
