-- How the code keeps an expression: a code for each node, in the order left, right, join.
use Rattle.std.specs.Prelude.{ℕ, List, [], ◌∷◌, map, ◌≡◌}
use Rattle.arith.specs.Trees.{Node, value, joining, leaf, join, postfix, run}
use Rattle.peal.specs.Policies.{MinMax, smaller, larger, Expression}
use Rattle.text.specs.declared.expressions.Code.{Code}
use Rattle.text.specs.declared.expressions.Code.TheVariants.{Min, Max, Policy}

-- so many codes have room
abbrev pub code_cells : ℕ
code_cells = 31

-- the code of a node: `min`, `max`, or a policy by its number
unfoldable pub code_of : Node MinMax ℕ → Code ℕ
code_of (value n) = Policy n
code_of (joining smaller) = Min
code_of (joining larger) = Max

-- the codes of an expression, in the order left, right, join
unfoldable pub codes_of : Expression → List (Code ℕ)
codes_of e = map code_of (postfix e)

-- the node of a code
unfoldable pub node_meaning : Code ℕ → Node MinMax ℕ
node_meaning Min = joining smaller
node_meaning Max = joining larger
node_meaning (Policy n) = value n

-- the last one of the trees that were made, the mention of policy 0 where there is none
unfoldable pub last_made : List Expression → Expression
last_made [] = leaf 0
last_made (e ∷ es) = e

-- the expression of some codes: each join takes the last two trees
unfoldable pub expression_of : List (Code ℕ) → Expression
expression_of codes = last_made (run join leaf (map node_meaning codes) [])

-- they are an expression's
abbrev pub AreCodes : List (Code ℕ) → Type 0
AreCodes codes = codes ≡ codes_of (expression_of codes)
