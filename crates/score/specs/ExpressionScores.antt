-- The scores that wait for a join, as the code keeps them, and where it stands in an expression.
use Rattle.std.specs.Prelude.{ℕ, ◌≤◌, List, [], ◌∷◌, reverse, ◌≡◌, ℤ, length, drop}
use Rattle.arith.specs.Trees.{postfix, run}
use Rattle.arith.specs.Leaves.{LeavesOne}
use Rattle.peal.specs.Policies.{Policy, Expression, policy_at}
use Rattle.peal.specs.Score.{of_two, policy_score, score}
use Rattle.score.specs.Pairs.{Is}
use Rattle.score.specs.declared.exact.Exact.{Exact}

-- these pairs are these scores, in order
abbrev pub AreScores : List Exact → List ℤ → Type 0
AreScores [] [] = Unit {0}
AreScores (x ∷ xs) (v ∷ vs) = Is x v × AreScores xs vs
AreScores [] (v ∷ vs) = ⊥
AreScores (x ∷ xs) [] = ⊥

-- before node i of an expression: what waits is enough, and leads to the score
pub record Underway (ps : List Policy) (set : ℕ) (e : Expression) (i : ℕ) (waiting : List Exact) : Type 0 where
  -- the last first
  pub values : List ℤ
  pub held : AreScores (reverse waiting) values
  pub enough : LeavesOne (drop i (postfix e)) (length values)
  pub few : length values ≤ i
  pub same : run of_two (λ k. policy_score set (policy_at ps k)) (drop i (postfix e)) values ≡ score ps set e ∷ []
