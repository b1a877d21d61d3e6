-- The values as the code keeps them, and where it stands in a sound listing.
use Rattle.std.specs.Prelude.{ℕ, ◌+◌, ◌*◌, ◌/◌, ◌≤◌, ◌<◌, Bool, true, false, List, [], ◌∷◌, ◌≡◌, length, get_or}
use Rattle.answers.specs.Answers.{result}
use Rattle.arith.specs.Members.{Each}
use Rattle.arith.specs.Trees.{run}
use Rattle.layout.specs.Records.{Join, and, or, one_if}
use Rattle.layout.specs.Judgement.{SoFar, judged}
use Rattle.layout.specs.Nodes.{ListedPolicy, leading_lines, nodes}
use Rattle.layout.specs.Steps.{record_at, records_from}
use Rattle.rod.specs.Reading.{policy_value, joined, says}

-- values as bits of a number, the last in the lowest bit
unfoldable pub bits_of : List Bool → ℕ
bits_of [] = 0
bits_of (b ∷ values) = one_if b + 2 * bits_of values

-- one value more
abbrev pub ValueAdded : Bool → (before after : ℕ) → Type 0
ValueAdded value before after = (s : List Bool) → before ≡ bits_of s → after ≡ bits_of (value ∷ s)

-- the last two values joined into one
abbrev pub LastJoined : Join → (before after : ℕ) → Type 0
LastJoined j before after =
    (a b : Bool) (s : List Bool) → before ≡ bits_of (b ∷ a ∷ s) → after ≡ bits_of (joined j a b ∷ s)

-- a join, from the code's flag
abbrev pub join_meaning : Bool → Join
join_meaning true = or
join_meaning false = and

-- the mask of the record at an index: of a line, its set
abbrev pub mask_at : List ℕ → ℕ → ℕ
mask_at ws i = (record_at ws i).mask

-- every number is a signal set
abbrev pub AllSets : List ℕ → Type 0
AllSets ls = Each (λ (l : ℕ). l ≤ 65535) ls

-- the lines from index `from` on are signal sets, and end before index `end`
pub record LinesTo (ws : List ℕ) (from end : ℕ) : Type 0 where
  pub run : end ≡ from + length (leading_lines (records_from ws from))
  pub sets : AllSets (leading_lines (records_from ws from))

-- the policy at an index, with its flags and the lines after it
abbrev pub listed_at : List ℕ → ℕ → Bool → Bool → ListedPolicy
listed_at ws at quiet turned =
    let lines = leading_lines (records_from ws (at + 1)) in
    record { quiet = quiet; turned = turned; mask = mask_at ws at; lines = lines }

-- the index after a node and its lines
unfoldable pub node_end : List ℕ → ℕ → ℕ
node_end ws at = at + 1 + length (leading_lines (records_from ws (at + 1)))

-- the node at this index ends, with its lines, before index `end`
pub record NodeTo (ws : List ℕ) (at end : ℕ) : Type 0 where
  pub within : at < length ws / 4
  pub ends : end ≡ node_end ws at

-- the records from this index on are judged sound, and begin with no line
pub record NodeAt (ws : List ℕ) (at : ℕ) : Type 0 where
  pub above : SoFar
  pub sound : judged at above (records_from ws at) ≡ result tt
  pub no_line : leading_lines (records_from ws at) ≡ []

-- at this index, with these values, the nodes to come say what the whole listing says
pub record ReadingUnderway (ws : List ℕ) (set at values : ℕ) : Type 0 where
  pub node : NodeAt ws at
  pub stack : List Bool
  pub held : values ≡ bits_of stack
  pub height : node.above.values ≡ length stack
  pub few : node.above.values ≤ node.above.policies
  pub at_most : node.above.policies ≤ 16
  pub same : get_or (run joined (policy_value set) (nodes (records_from ws at)) stack) 0 false ≡ says ws set
