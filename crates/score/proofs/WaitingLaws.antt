-- The scores that wait for a join: how many they are, and the last of them.
use mathlib.Core.List.{List, [], ◌∷◌, ◌++◌}
use mathlib.Core.Path.{◌≡◌, sym, ap, subst, ◌∙◌}
use native.Mathlib.Omega.{arith}
use lib.IntN.{ℤ}
use lib.ListN.{length}
use Rattle.std.specs.Prelude.{reverse}
use Rattle.std.proofs.lemmas.List.{reverse-append, length-reverse}
use Rattle.score.specs.Pairs.{Is}
use Rattle.score.specs.ExpressionScores.{AreScores}
use Rattle.score.specs.declared.exact.Exact.{Exact}

scores-count : (xs : List Exact) (vs : List ℤ) → AreScores xs vs → length xs ≡ length vs
scores-count [] [] h = omega arith
scores-count [] (v ∷ vs) h = absurd h
scores-count (x ∷ xs) [] h = absurd h
scores-count (x ∷ xs) (v ∷ vs) h = omega (arith, scores-count xs vs h.1)

pub waiting-count : (xs : List Exact) (vs : List ℤ) → AreScores (reverse xs) vs → length xs ≡ length vs
waiting-count xs vs h = sym (length-reverse xs) ∙ scores-count (reverse xs) vs h

-- of the waiting ones the last is the first value
module _ (front xs : List Exact) (x : Exact) (e : xs ≡ front ++ (x ∷ [])) where
  last-first : reverse xs ≡ x ∷ reverse front
  last-first = ap (λ (l : List Exact). reverse l) e ∙ reverse-append front (x ∷ [])

  pub last-waits : (v : ℤ) (vs : List ℤ) → AreScores (reverse xs) (v ∷ vs) → Is x v × AreScores (reverse front) vs
  last-waits v vs h = subst (λ (l : List Exact). AreScores l (v ∷ vs)) last-first h

  pub one-more : (v : ℤ) (vs : List ℤ) → Is x v → AreScores (reverse front) vs → AreScores (reverse xs) (v ∷ vs)
  one-more v vs i h = subst (λ (l : List Exact). AreScores l (v ∷ vs)) (sym last-first) (i, h)
