-- Claimed: on a sound listing the rod gives the value of its tree. Proved in proofs/Trees.antt.
use Rattle.std.specs.Prelude.{ℕ, List, ◌≡◌}
use Rattle.answers.specs.Answers.{result}
use Rattle.arith.specs.Trees.{tree_value}
use Rattle.layout.specs.Records.{records}
use Rattle.layout.specs.Judgement.{verdict}
use Rattle.layout.specs.Nodes.{nodes}
use Rattle.layout.specs.WellFormed.{TreeOf}
use Rattle.rod.specs.Reading.{policy_value, joined, rod_answer}

-- so the stack of values by which `says` reads the nodes computes what the tree means, for every sound listing and set
abbrev pub SoundReading : Type 0
SoundReading =
    (ws : List ℕ) → verdict ws ≡ result tt → (of : TreeOf (nodes (records ws))) → (set : ℕ)
    → rod_answer ws set ≡ result (tree_value joined (policy_value set) of.tree)
