-- Computed examples of compiling: refusal 8 after 7, and the lent words.
use Prim.Native.Nat.{ℕ}
use mathlib.Core.List.{List, [], ◌∷◌}
use mathlib.Core.Path.{◌≡◌, refl}
use lib.ListN.{length}
use Rattle.answers.specs.Answers.{Answer, result, refused}
use Rattle.text.specs.Text.{bytes}
use Rattle.compiler.specs.Compiling.{compiled, returned, lent_after}
use Rattle.compiler.specs.Computing.{compiler_computes}

-- a book whose listing has two records
abbrev book : List ℕ
book = bytes "p sum\nr 0 40\nc 20 < p0\n"

-- what compiling condition n into some words returns, and what it leaves there
abbrev returns : ℕ → List ℕ → Answer ℕ
returns n lent = returned (compiled book n (length lent))

abbrev leaves : ℕ → List ℕ → List ℕ
leaves n lent = lent_after lent (compiled book n (length lent))

-- words beyond the listing are unchanged
nine_words : returns 0 (9 ∷ 9 ∷ 9 ∷ 9 ∷ 9 ∷ 9 ∷ 9 ∷ 9 ∷ 9 ∷ []) ≡ result 2
unfolding compiler_computes
nine_words = refl

nine-left : leaves 0 (9 ∷ 9 ∷ 9 ∷ 9 ∷ 9 ∷ 9 ∷ 9 ∷ 9 ∷ 9 ∷ []) ≡ 16 ∷ 1 ∷ 2 ∷ 0 ∷ 4 ∷ 1 ∷ 0 ∷ 0 ∷ 9 ∷ []
unfolding compiler_computes
nine-left = refl

-- just enough words, and one too few: all words are unchanged
eight-words : returns 0 (9 ∷ 9 ∷ 9 ∷ 9 ∷ 9 ∷ 9 ∷ 9 ∷ 9 ∷ []) ≡ result 2
unfolding compiler_computes
eight-words = refl

seven-words : returns 0 (9 ∷ 9 ∷ 9 ∷ 9 ∷ 9 ∷ 9 ∷ 9 ∷ []) ≡ refused 8 0
unfolding compiler_computes
seven-words = refl

seven-left : leaves 0 (9 ∷ 9 ∷ 9 ∷ 9 ∷ 9 ∷ 9 ∷ 9 ∷ []) ≡ 9 ∷ 9 ∷ 9 ∷ 9 ∷ 9 ∷ 9 ∷ 9 ∷ []
unfolding compiler_computes
seven-left = refl

-- 7 comes before 8
no-condition : returns 1 [] ≡ refused 7 0
unfolding compiler_computes
no-condition = refl
