-- The values as the code keeps them, sixteen tables at most, and where it stands in a sound listing.
use Rattle.std.specs.Prelude.{ℕ, zero, suc, ◌+◌, ◌*◌, ◌/◌, ◌≤◌, ◌<◌, Bool, false, not, cond, List, [], ◌∷◌, map, ◌≡◌, length, get_or}
use Rattle.std.specs.Bool.{beq}
use Rattle.arith.specs.Trees.{run}
use Rattle.signals.specs.Sets.{present}
use Rattle.blocks.specs.Blocks.{WordOf, BlockOf}
use Rattle.layout.specs.Records.{Join}
use Rattle.layout.specs.Nodes.{ListedPolicy, nodes}
use Rattle.layout.specs.Steps.{records_from}
use Rattle.rod.specs.Reading.{policy_value, joined, says}
use Rattle.groups.specs.Groups.{IsGroup, IsTable, group_set, GroupOf}
use Rattle.rod.specs.Values.{mask_at, LinesTo, listed_at, NodeAt}

-- the values are kept in sixteen tables
pub record SixteenTables (values : List (List ℕ)) : Type 0 where
  pub room : length values ≡ 16
  pub tables : (n : ℕ) → n < 16 → IsTable (get_or values n [])

-- word k of the value at a height
abbrev pub value_word : List (List ℕ) → ℕ → ℕ → ℕ
value_word values height k = get_or (get_or values height []) k 0

-- there are so many values, two at least
pub record TwoValues (values : List (List ℕ)) (height : ℕ) : Type 0 where
  pub room : SixteenTables values
  pub least : 2 ≤ height
  pub most : height ≤ 16

-- a value is put at this height: of each of its words something is told, and the other values are as they were
pub record ValuePut (Told : ℕ → ℕ → Type 0) (height : ℕ) (values left : List (List ℕ)) : Type 0 where
  pub room : SixteenTables left
  pub told : (k : ℕ) → k < 16 → Told k (value_word left height k)
  pub others : (n : ℕ) → (n ≡ height → ⊥) → get_or left n [] ≡ get_or values n []

-- word k tells what a policy says of block k of the group
abbrev pub PolicyWord : ListedPolicy → ℕ → ℕ → ℕ → Type 0
PolicyWord p group k word = BlockOf (λ set. policy_value set p) (16 * group + k) word

-- the table tells what the policy at an index says
pub record Said (ws : List ℕ) (at : ℕ) (quiet turned : Bool) (group : ℕ) (table : List ℕ) : Type 0 where
  pub room : IsTable table
  pub told : (k : ℕ) → k < 16 → PolicyWord (listed_at ws at quiet turned) group k (get_or table k 0)

-- bit j of a policy's word, where its mask overlaps the set or not
abbrev pub value_bit : Bool → ℕ → ℕ → ℕ → ℕ → Bool
value_bit shared found turn still j = cond shared (not (beq (present found j) (present turn j))) (present still j)

-- bit j of a policy's word: by its overlap, the lines inside, and two words, all sets or none, for turned and quiet
abbrev pub policy_bit : ℕ → ℕ → ℕ → ℕ → ℕ → Bool
policy_bit shared found turn still j = value_bit (present shared j) found turn still j

-- a policy's words, each from a word of its block's overlap
pub record WordsPut (Overlap : ℕ → ℕ → Type 0) (found : List ℕ) (turn still : ℕ) (table : List ℕ) : Type 0 where
  pub room : IsTable table
  pub told : (k : ℕ) → k < 16
      → (shared : ℕ) × Overlap k shared × WordOf (policy_bit shared (get_or found k 0) turn still) (get_or table k 0)

-- word k joins those of the value at this height and of the next
abbrev pub JoinedWord : Join → ℕ → List (List ℕ) → ℕ → ℕ → Type 0
JoinedWord join height values k word =
    let first = value_word values height k in
    let second = value_word values (height + 1) k in
    WordOf (λ j. joined join (present first j) (present second j)) word

-- the value at this height and the next are joined
abbrev pub JoinPut : Join → ℕ → List (List ℕ) → List (List ℕ) → Type 0
JoinPut join height values left = ValuePut (JoinedWord join height values) height values left

-- the record at this index has a signal set as mask, and so have its lines, which end before index `end`
pub record PolicyHere (ws : List ℕ) (at end : ℕ) : Type 0 where
  pub within : at < length ws / 4
  pub set : mask_at ws at ≤ 65535
  pub lines : LinesTo ws (at + 1) end

-- word k of each of the first `height` values, the last first
unfoldable pub held_words : List (List ℕ) → ℕ → ℕ → List ℕ
held_words values k zero = []
held_words values k (suc height) = value_word values height k ∷ held_words values k height

-- what these words tell of set j of the block
unfoldable pub column : ℕ → List ℕ → List Bool
column j held = map (λ (word : ℕ). present word j) held

-- at this index, with so many values, the nodes to come say of each set of the group what the whole listing says
pub record GroupUnderway (ws : List ℕ) (group at : ℕ) (values : List (List ℕ)) (height : ℕ) : Type 0 where
  pub within : IsGroup group
  pub room : SixteenTables values
  pub node : NodeAt ws at
  pub level : node.above.values ≡ height
  pub few : node.above.values ≤ node.above.policies
  pub at_most : node.above.policies ≤ 16
  pub same : (k : ℕ) → k < 16 → (j : ℕ) → j < 64
      → let set = group_set group k j in
      let stack = column j (held_words values k height) in
      get_or (run joined (policy_value set) (nodes (records_from ws at)) stack) 0 false ≡ says ws set

-- the first table tells of each set of the group what the listing says
pub record GroupRead (ws : List ℕ) (group : ℕ) (values : List (List ℕ)) : Type 0 where
  pub room : SixteenTables values
  pub told : GroupOf (says ws) group (get_or values 0 [])
