-- The codes of an expression: of its parts, by its nodes, and back.
use Prim.Native.Nat.{ℕ}
use mathlib.Core.List.{List, [], ◌∷◌, ◌++◌, map, map-append, append_assoc, append-nil}
use mathlib.Core.Path.{◌≡◌, refl, sym, ap, ◌∙◌}
use lib.ListN.{length, get_or, length-map, get_or-map}
use Rattle.arith.specs.Trees.{Node, value, joining, leaf, join, postfix, tree_value, run}
use Rattle.arith.proofs.Trees.{run-tree}
use Rattle.peal.specs.Policies.{MinMax, smaller, larger, Expression}
use Rattle.text.specs.Codes.{code_of, codes_of, node_meaning, last_made, expression_of, AreCodes}
use Rattle.text.specs.declared.expressions.Code.{Code}
use Rattle.text.specs.declared.expressions.Code.TheVariants.{Min, Max, Policy}

pub codes-leaf : (n : ℕ) → codes_of (leaf n) ≡ Policy n ∷ []
unfolding codes_of postfix code_of
codes-leaf n = refl

pub codes-join : (m : MinMax) (a b : Expression) → codes_of (join m a b) ≡ (codes_of a ++ codes_of b) ++ (code_of (joining m) ∷ [])
unfolding codes_of postfix
codes-join m a b =
    map-append code_of (postfix a) (postfix b ++ (joining m ∷ []))
    ∙ ap (λ (l : List (Code ℕ)). map code_of (postfix a) ++ l) (map-append code_of (postfix b) (joining m ∷ []))
    ∙ sym (append_assoc (map code_of (postfix a)) (map code_of (postfix b)) (code_of (joining m) ∷ []))

-- ---- by nodes

-- node i of an expression
abbrev pub node_of : Expression → ℕ → Node MinMax ℕ
node_of e i = get_or (postfix e) i (joining smaller)

pub node-code : (n : Node MinMax ℕ) → node_meaning (code_of n) ≡ n
unfolding node_meaning code_of
node-code (value k) = refl
node-code (joining smaller) = refl
node-code (joining larger) = refl

pub code-meaning : (code : Code ℕ) → code_of (node_meaning code) ≡ code
unfolding node_meaning code_of
code-meaning Min = refl
code-meaning Max = refl
code-meaning (Policy n) = refl

pub codes-nodes : (e : Expression) → length (codes_of e) ≡ length (postfix e)
unfolding codes_of
codes-nodes e = length-map (postfix e) code_of

pub code-node : (e : Expression) (i : ℕ) → get_or (codes_of e) i Min ≡ code_of (node_of e i)
unfolding codes_of code_of
code-node e i = get_or-map code_of (postfix e) i (joining smaller)

-- ---- and back

nodes-back : (ns : List (Node MinMax ℕ)) → map node_meaning (map code_of ns) ≡ ns
nodes-back [] = refl
nodes-back (n ∷ ns) = rw (node-code n, nodes-back ns) refl

tree-again : (e : Expression) → tree_value join leaf e ≡ e
unfolding tree_value
tree-again (leaf n) = refl
tree-again (join m a b) = rw (tree-again a, tree-again b) refl

-- the codes of an expression give it back
pub expression-again : (e : Expression) → expression_of (codes_of e) ≡ e
unfolding expression_of codes_of run last_made
expression-again e =
    ap (λ (ns : List (Node MinMax ℕ)). last_made (run join leaf ns [])) (nodes-back (postfix e) ∙ sym (append-nil (postfix e)))
    ∙ ap last_made (run-tree join leaf e [] [])
    ∙ tree-again e

-- so they are those of the expression that they give
pub are-codes : (e : Expression) → AreCodes (codes_of e)
are-codes e = ap codes_of (sym (expression-again e))
