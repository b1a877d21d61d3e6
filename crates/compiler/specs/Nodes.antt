-- The records of a condition's nodes one by one, as the code counts and writes them (document 01, "From condition to listing").
use Rattle.std.specs.Prelude.{ℕ, ◌+◌, ◌<◌, Bool, cond, List, [], ◌∷◌, ◌≡◌, length}
use Rattle.arith.specs.Trees.{value, joining, postfix}
use Rattle.layout.specs.Records.{Record, join_kind, policy_kind}
use Rattle.layout.specs.Judgement.{if_any}
use Rattle.layout.specs.Nodes.{ListedNode, line_records}
use Rattle.peal.specs.Policies.{MinMax, smaller, larger, Condition, Book, policy_at}
use Rattle.translation.specs.Translation.{join_of, listed, translated}
use Rattle.text.specs.Codes.{code_of}
use Rattle.text.specs.declared.expressions.Code.{Code}
use Rattle.text.specs.declared.expressions.Code.TheVariants.{Min, Max, Policy}

-- the nodes of a condition's listing
unfoldable pub nodes_of : Book → Condition → List ListedNode
nodes_of b c = postfix (translated b.policies c)

-- the node of a code
abbrev pub coded_node : Book → Condition → Code ℕ → ListedNode
coded_node b c Min = joining (join_of c.sense smaller)
coded_node b c Max = joining (join_of c.sense larger)
coded_node b c (Policy k) = value (listed c.sense c.threshold (policy_at b.policies k))

-- so it is for the join that the code may be of
abbrev pub ForJoin : Code ℕ → (MinMax → Type 0) → Type 0
ForJoin code P = (m : MinMax) → code ≡ code_of (joining m) → P m

-- a code mentions policies of the book alone
abbrev pub CodeKept : Book → Code ℕ → Type 0
CodeKept b Min = Unit {0}
CodeKept b Max = Unit {0}
CodeKept b (Policy k) = k < length b.policies

-- how many lines a node has: a join has none
unfoldable pub lines_in : ListedNode → ℕ
lines_in (value p) = length p.lines
lines_in (joining j) = 0

-- so many lines at most have the nodes of a condition together: 31 nodes, and a line for each set of 16 rules
abbrev pub most_lines : ℕ
most_lines = 2031616

-- the records of one node, the first of which is record n; `more` tells whether a node follows
unfoldable pub one_node : ℕ → Bool → ListedNode → List Record
one_node n more (value p) =
    record {
      kind = policy_kind p.quiet p.turned;
      mask = p.mask;
      lines = if_any p.lines (n + 1);
      next = cond more (n + 1 + length p.lines) 0;
    }
    ∷ line_records (n + 1) p.lines
one_node n more (joining j) = record { kind = join_kind j; mask = 0; lines = 0; next = cond more (n + 1) 0 } ∷ []
