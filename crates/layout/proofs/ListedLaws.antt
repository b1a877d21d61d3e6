-- The records of lines, nodes and excluded pairs: what they begin with, and which nodes and pairs are read from them.
use Prim.Native.Nat.{ℕ, ◌+◌}
use mathlib.Core.List.{List, [], ◌∷◌, ◌++◌}
use mathlib.Core.Path.{◌≡◌, refl, ap, ◌∙◌}
use native.Mathlib.Nat.{add-zero}
use native.Mathlib.Omega.{arith}
use lib.ListN.{length}
use Rattle.arith.specs.Trees.{value, joining}
use Rattle.layout.specs.Records.{Record, records, words, kind_of, is_line, kinds}
use Rattle.layout.specs.Judgement.{if_any, if_line, next_node}
use Rattle.layout.specs.Nodes.{ListedNode, line_records, node_records, exclusion_records, listing, leading_lines, node_then, nodes, pair_then, excluded}
use Rattle.layout.proofs.KindLaws.{kind-line, kind-policy, kind-join, kind-exclusion}
use Rattle.layout.proofs.WordLaws.{records-words}

-- ---- what stands after a record

-- the records of nodes begin with no line
pub no_line : (m k : ℕ) (ns : List ListedNode) → if_line (kinds (node_records m ns)) k ≡ 0
unfolding node_records kinds if_line is_line
no_line m k [] = refl
no_line m k (value p ∷ ns) = rw (kind-policy p.quiet p.turned) refl
no_line m k (joining j ∷ ns) = rw (kind-join j) refl

pub any-nodes : (m k : ℕ) (ns : List ListedNode) → if_any (kinds (node_records m ns)) k ≡ if_any ns k
unfolding node_records kinds if_any
any-nodes m k [] = refl
any-nodes m k (value p ∷ ns) = refl
any-nodes m k (joining j ∷ ns) = refl

pub next-nodes : (m k : ℕ) (ns : List ListedNode) → next_node k (kinds (node_records m ns)) ≡ if_any ns k
unfolding node_records kinds if_any next_node is_line
next-nodes m k [] = refl
next-nodes m k (value p ∷ ns) = rw (kind-policy p.quiet p.turned) refl
next-nodes m k (joining j ∷ ns) = rw (kind-join j) refl

-- after some lines and then records that begin with none
pub line-lines : (m k : ℕ) (ls : List ℕ) (rest : List Record) → if_line (kinds rest) k ≡ 0 → if_line (kinds (line_records m ls ++ rest)) k ≡ if_any ls k
unfolding line_records kinds if_line if_any kind_of is_line
line-lines m k [] rest h = h
line-lines m k (l ∷ ls) rest h = rw kind-line refl

pub next-lines : (m k : ℕ) (ls : List ℕ) (rest : List Record) → next_node k (kinds (line_records m ls ++ rest)) ≡ next_node (k + length ls) (kinds rest)
unfolding line_records kinds next_node is_line
next-lines m k [] rest = rw add-zero refl
next-lines m k (l ∷ ls) rest =
    rw kind-line (next-lines (m + 1) (k + 1) ls rest ∙ ap (λ (i : ℕ). next_node i (kinds rest)) (omega arith))

-- ---- the nodes and pairs of a listing

no-leading-lines : (m : ℕ) (ns : List ListedNode) → leading_lines (node_records m ns) ≡ []
unfolding node_records leading_lines is_line
no-leading-lines m [] = refl
no-leading-lines m (value p ∷ ns) = rw (kind-policy p.quiet p.turned) refl
no-leading-lines m (joining j ∷ ns) = rw (kind-join j) refl

leading-lines : (m : ℕ) (ls : List ℕ) (rest : List Record) → leading_lines rest ≡ [] → leading_lines (line_records m ls ++ rest) ≡ ls
unfolding line_records leading_lines is_line
leading-lines m [] rest h = h
leading-lines m (l ∷ ls) rest h = rw kind-line (ap {B = List ℕ} (λ x. l ∷ x) (leading-lines (m + 1) ls rest h))

nodes-lines : (m : ℕ) (ls : List ℕ) (rest : List Record) → nodes (line_records m ls ++ rest) ≡ nodes rest
unfolding line_records nodes node_then
nodes-lines m [] rest = refl
nodes-lines m (l ∷ ls) rest = rw kind-line (nodes-lines (m + 1) ls rest)

nodes-records : (m : ℕ) (ns : List ListedNode) → nodes (node_records m ns) ≡ ns
unfolding node_records nodes node_then
nodes-records m [] = refl
nodes-records m (joining j ∷ ns) = rw kind-join (ap {B = List ListedNode} (λ x. joining j ∷ x) (nodes-records (m + 1) ns))
nodes-records m (value p ∷ ns) =
    rw (kind-policy p.quiet p.turned, leading-lines (m + 1) p.lines (node_records (m + 1 + length p.lines) ns) (no-leading-lines (m + 1 + length p.lines) ns), nodes-lines)
    (ap {B = List ListedNode} (λ x. value p ∷ x) (nodes-records (m + 1 + length p.lines) ns))

-- exclusions are no nodes, and nodes are no exclusions
nodes-exclusions : (m : ℕ) (pairs : List ℕ) (rest : List Record) → nodes (exclusion_records m pairs ++ rest) ≡ nodes rest
unfolding exclusion_records nodes node_then
nodes-exclusions m [] rest = refl
nodes-exclusions m (pair ∷ pairs) rest = rw kind-exclusion (nodes-exclusions (m + 1) pairs rest)

excluded-records : (m k : ℕ) (pairs : List ℕ) (ns : List ListedNode) → excluded (exclusion_records m pairs ++ node_records k ns) ≡ pairs
unfolding exclusion_records node_records excluded pair_then
excluded-records m k [] [] = refl
excluded-records m k [] (value p ∷ ns) = rw (kind-policy p.quiet p.turned) refl
excluded-records m k [] (joining j ∷ ns) = rw (kind-join j) refl
excluded-records m k (pair ∷ pairs) ns = rw kind-exclusion (ap {B = List ℕ} (λ x. pair ∷ x) (excluded-records (m + 1) k pairs ns))

-- the nodes and the exclusions of a listing are those that it was made of
pub nodes-listing : (pairs : List ℕ) (ns : List ListedNode) → nodes (records (words (listing pairs ns))) ≡ ns
unfolding listing
nodes-listing pairs ns = rw (records-words, nodes-exclusions) (nodes-records (1 + length pairs) ns)

pub excluded-listing : (pairs : List ℕ) (ns : List ListedNode) → excluded (records (words (listing pairs ns))) ≡ pairs
unfolding listing
excluded-listing pairs ns = rw records-words (excluded-records 1 (1 + length pairs) pairs ns)
