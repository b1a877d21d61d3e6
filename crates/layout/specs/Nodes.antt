-- The nodes and the excluded pairs of a listing, and the listing of such (document 01, "From condition to listing"; change request 1).
use Rattle.std.specs.Prelude.{ℕ, ◌+◌, Bool, cond, List, [], ◌∷◌, ◌++◌, length}
use Rattle.arith.specs.Trees.{Node, value, joining}
use Rattle.layout.specs.Records.{Record, Join, Kind, policy, line, join, exclusion, unknown, is_line, kind_of, line_kind, policy_kind, join_kind, exclusion_kind}
use Rattle.layout.specs.Judgement.{if_any}

-- a policy as a listing has it: its flags, the mask of all its signals, the sets of its lines
pub record ListedPolicy : Type 0 where
  pub quiet : Bool
  pub turned : Bool
  pub mask : ℕ
  pub lines : List ℕ

-- the nodes of a listing are policies, ands and ors
abbrev pub ListedNode : Type 0
ListedNode = Node Join ListedPolicy

-- the records of a policy's lines, the first of which is record n
unfoldable pub line_records : ℕ → List ℕ → List Record
line_records n [] = []
line_records n (l ∷ ls) = record { kind = line_kind; mask = l; lines = 0; next = if_any ls (n + 1) } ∷ line_records (n + 1) ls

-- the records of some nodes, the first of which is record n: a policy's lines follow it directly, and each node is chained to the next
unfoldable pub node_records : ℕ → List ListedNode → List Record
node_records n [] = []
node_records n (value p ∷ ns) =
    let after = n + 1 + length p.lines in
    record { kind = policy_kind p.quiet p.turned; mask = p.mask; lines = if_any p.lines (n + 1); next = if_any ns after }
    ∷ (line_records (n + 1) p.lines ++ node_records after ns)
node_records n (joining j ∷ ns) =
    record { kind = join_kind j; mask = 0; lines = 0; next = if_any ns (n + 1) } ∷ node_records (n + 1) ns

-- the records of some excluded pairs, the first of which is record n
unfoldable pub exclusion_records : ℕ → List ℕ → List Record
exclusion_records n [] = []
exclusion_records n (pair ∷ pairs) = record { kind = exclusion_kind; mask = pair; lines = 0; next = n + 1 } ∷ exclusion_records (n + 1) pairs

-- the listing of some excluded pairs and nodes: it begins with one record per pair; records count from 1
unfoldable pub listing : List ℕ → List ListedNode → List Record
listing pairs ns = exclusion_records 1 pairs ++ node_records (1 + length pairs) ns

-- the sets of the lines that some records begin with
unfoldable pub leading_lines : List Record → List ℕ
leading_lines [] = []
leading_lines (r ∷ rest) = cond (is_line (kind_of r.kind)) (r.mask ∷ leading_lines rest) []

-- a record's node, in front of the nodes after it; a policy has the lines that follow it; a line or an exclusion is no node
unfoldable pub node_then : Kind → ℕ → List ℕ → List ListedNode → List ListedNode
node_then (policy quiet turned) mask ls ns = value (record { quiet = quiet; turned = turned; mask = mask; lines = ls }) ∷ ns
node_then line mask ls ns = ns
node_then (join j) mask ls ns = joining j ∷ ns
node_then exclusion mask ls ns = ns
node_then unknown mask ls ns = ns

-- the nodes of some records, in their order
unfoldable pub nodes : List Record → List ListedNode
nodes [] = []
nodes (r ∷ rest) = node_then (kind_of r.kind) r.mask (leading_lines rest) (nodes rest)

-- the mask of an excluded pair, in front of those after it
unfoldable pub pair_then : Kind → ℕ → List ℕ → List ℕ
pair_then exclusion mask pairs = mask ∷ pairs
pair_then (policy quiet turned) mask pairs = []
pair_then line mask pairs = []
pair_then (join j) mask pairs = []
pair_then unknown mask pairs = []

-- the excluded pairs that some records begin with
unfoldable pub excluded : List Record → List ℕ
excluded [] = []
excluded (r ∷ rest) = pair_then (kind_of r.kind) r.mask (excluded rest)
