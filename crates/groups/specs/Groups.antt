-- Tables that tell one thing of each set of a group, the 1,024 sets from 1024 * group on.
use Rattle.std.specs.Prelude.{ℕ, zero, suc, ◌+◌, ◌-◌, ◌*◌, ◌/◌, ◌%◌, ◌≤◌, ◌<◌, Bool, not, ◌&&◌, ◌||◌, List, [], ◌∷◌, ◌≡◌, eqb, length, get_or}
use Rattle.arith.specs.Lists.{exists}
use Rattle.signals.specs.Sets.{present, inside}
use Rattle.blocks.specs.Blocks.{BlockOf, without}
use Rattle.answers.specs.Answers.{result}
use Rattle.layout.specs.Records.{records}
use Rattle.layout.specs.Judgement.{verdict}
use Rattle.layout.specs.Nodes.{excluded}
use Rattle.rod.specs.Values.{mask_at, AllSets}

-- the number of a group: the highest has all of the six highest signals
abbrev pub IsGroup : ℕ → Type 0
IsGroup group = group ≤ 63

-- a table has a word for each of the 16 blocks of a group
abbrev pub IsTable : List ℕ → Type 0
IsTable table = length table ≡ 16

-- set j of block k of a group
abbrev pub group_set : ℕ → ℕ → ℕ → ℕ
group_set group k j = 64 * (16 * group + k) + j

-- the words of a table tell the test of the 16 blocks of a group, from 16 * group on
abbrev pub GroupOf : (ℕ → Bool) → ℕ → List ℕ → Type 0
GroupOf test group table = (k : ℕ) → k < 16 → BlockOf test (16 * group + k) (get_or table k 0)

-- the masks of so many records from an index on
unfoldable pub masks_from : List ℕ → ℕ → ℕ → List ℕ
masks_from ws at zero = []
masks_from ws at (suc count) = mask_at ws at ∷ masks_from ws (at + 1) count

-- the records from one index up to another have signal sets as masks
pub record MasksAt (ws : List ℕ) (from end : ℕ) : Type 0 where
  pub ordered : from ≤ end
  pub within : end ≤ length ws / 4
  pub sets : AllSets (masks_from ws from (end - from))

-- the masks of the records from one index up to another can be put into the table of a group
pub record CanGather (ws : List ℕ) (from end group : ℕ) : Type 0 where
  pub within : IsGroup group
  pub masks : MasksAt ws from end

-- how many excluded pairs a listing begins with
abbrev pub pair_count : List ℕ → ℕ
pair_count ws = length (excluded (records ws))

-- the words are a sound listing that begins with so many pairs
abbrev pub SoundWith : List ℕ → ℕ → Type 0
SoundWith ws pairs = (verdict ws ≡ result tt) × (pairs ≡ pair_count ws)

-- the words are such a listing, and it is read for this group
pub record SoundGroup (ws : List ℕ) (pairs group : ℕ) : Type 0 where
  pub sound : SoundWith ws pairs
  pub within : IsGroup group

-- ---- masks in a table, spread from signal to signal

-- what a table tells of set x of the group: bit x % 64 of word x / 64
unfoldable pub tells : List ℕ → ℕ → Bool
tells table x = present (get_or table (x / 64) 0) (x % 64)

-- below signal n the first lies inside the second, and from n on the two are the same
unfoldable pub reaches : ℕ → ℕ → ℕ → Bool
reaches zero a b = eqb a b
reaches (suc n) a b = (not (present a 0) || present b 0) && reaches n (a / 2) (b / 2)

-- the group has the mask's six highest signals, and the mask's ten lowest reach set x below signal n
unfoldable pub mask_reaches : ℕ → ℕ → ℕ → ℕ → Bool
mask_reaches n group x mask = inside (mask / 1024) group && reaches n (mask % 1024) x

-- a table tells of each set whether some mask reaches it below signal n
pub record Reached (n : ℕ) (masks : List ℕ) (group : ℕ) (table : List ℕ) : Type 0 where
  pub room : IsTable table
  pub told : (x : ℕ) → x < 1024 → tells table x ≡ exists (mask_reaches n group x) masks

-- a signal set, and a group in which it may lie
pub record SetAndGroup (mask group : ℕ) : Type 0 where
  pub set : mask ≤ 65535
  pub within : IsGroup group

-- a mask is added to a table, at the group's set with just its ten lowest signals, if the group has its six highest
pub record Added (mask group : ℕ) (table left : List ℕ) : Type 0 where
  pub room : IsTable left
  pub told : (x : ℕ) → x < 1024 → tells left x ≡ (tells table x || mask_reaches 0 group x mask)

-- the masks of the records from one index up to another are added to a table, each so
pub record Gathered (ws : List ℕ) (from end group : ℕ) (table left : List ℕ) : Type 0 where
  pub room : IsTable left
  pub told : (x : ℕ) → x < 1024
      → tells left x ≡ (tells table x || exists (mask_reaches 0 group x) (masks_from ws from (end - from)))

-- one of the four signals that tell the blocks of a group apart
pub record BlockSignal (signal : ℕ) : Type 0 where
  pub least : 6 ≤ signal
  pub most : signal ≤ 9

-- each set of a table that has the signal also gets what is told of the set without it
pub record Spread (signal : ℕ) (table left : List ℕ) : Type 0 where
  pub room : IsTable left
  pub told : (x : ℕ) → x < 1024 → tells left x ≡ (tells table x || tells table (without signal x))

-- where the table tells whether a set was some mask's, the one left tells whether a mask reaches it below signal 10
abbrev pub AllSpread : List ℕ → List ℕ → Type 0
AllSpread table left = (masks : List ℕ) (group : ℕ) → Reached 0 masks group table → Reached 10 masks group left
