-- No meaning: a code for expressions, by which proofs tell them apart where a struct of the code stands for one.
use Rattle.std.specs.Prelude.{ℕ, Bool, true, false, List, [], ◌∷◌, ◌++◌, ◌≡◌, ◌⊎◌}
use Rattle.std.proofs.Common.{refl, sym, ap, ◌∙◌, inl, inr, append-nil}
use Rattle.std.specs.Coded.{Coded, code_by, coded_ℕ, coded_bool, coded_list, coded⊎}
use Rattle.arith.specs.Trees.{Node, value, joining, leaf, join, postfix, tree_value, run}
use Rattle.arith.proofs.Trees.{run-tree}
use Rattle.peal.specs.Policies.{MinMax, smaller, larger, Expression}
use Rattle.text.specs.Codes.{last_made}

-- ---- a node

abbrev pub split : Node MinMax ℕ → ℕ ⊎ Bool
split (value n) = inl n
split (joining smaller) = inr false
split (joining larger) = inr true

abbrev pub unsplit : ℕ ⊎ Bool → Node MinMax ℕ
unsplit (inl n) = value n
unsplit (inr false) = joining smaller
unsplit (inr true) = joining larger

pub split_again : (n : Node MinMax ℕ) → unsplit (split n) ≡ n
split_again (value n) = refl
split_again (joining smaller) = refl
split_again (joining larger) = refl

abbrev pub coded_node : Coded (Node MinMax ℕ)
coded_node = code_by (ℕ ⊎ Bool) (coded⊎ coded_ℕ coded_bool) split unsplit split_again

-- ---- an expression, by its nodes

tree_again : (e : Expression) → tree_value join leaf e ≡ e
unfolding tree_value
tree_again (leaf n) = refl
tree_again (join m a b) = rw (tree_again a, tree_again b) refl

-- the expression of some nodes
abbrev pub made_of : List (Node MinMax ℕ) → Expression
made_of ns = last_made (run join leaf ns [])

pub made_again : (e : Expression) → made_of (postfix e) ≡ e
unfolding last_made run
made_again e =
    ap (λ (ns : List (Node MinMax ℕ)). last_made (run join leaf ns [])) (sym (append-nil (postfix e)))
    ∙ ap last_made (run-tree join leaf e [] [])
    ∙ tree_again e

abbrev pub coded_expression : Coded Expression
coded_expression = code_by (List (Node MinMax ℕ)) (coded_list coded_node) postfix made_of made_again
