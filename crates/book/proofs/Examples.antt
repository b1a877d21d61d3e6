-- Computed examples of reading: books as they are read, and books with exclusions.
use Prim.Native.Nat.{ℕ, zero, suc}
use Prim.Native.String.{String, ◌++◌}
use mathlib.Core.List.{[], ◌∷◌}
use mathlib.Core.Path.{◌≡◌, refl}
use lib.IntN.{ℤ, pos, negsuc}
use Rattle.answers.specs.Answers.{Answer, result, refused}
use Rattle.arith.specs.Trees.{leaf, join}
use Rattle.peal.specs.Policies.{Rule, Exclusion, smaller}
use Rattle.peal.specs.declared.Operator.TheVariants.{Min, Max, Sum}
use Rattle.peal.specs.declared.Sense.TheVariants.{Above, AtMost}
use Rattle.text.specs.Text.{bytes}
use Rattle.book.specs.Books.{read, Counts, checked}
use Rattle.book.specs.Computing.{book_computes}

-- what a check of a text tells
abbrev pub outcome : String → Answer Counts
outcome s = checked (bytes s)

-- accepted, with so many policies and conditions
abbrev pub counts : ℕ → ℕ → Answer Counts
counts p c = result (record { policies = p; conditions = c })

abbrev rule : ℕ → ℤ → Rule
rule s v = record { signal = s; score = v }

-- ---- books that are read

printed-book : read (bytes "p sum 0\nr 0 40\nr 1 30\nr 2 30\np min 100\nr 3 20\nc 50 < min(p0,p1)\n")
    ≡ result
    (record {
      policies =
          record { operator = Sum; default = pos 0; rules = rule 0 (pos 40) ∷ rule 1 (pos 30) ∷ rule 2 (pos 30) ∷ [] }
          ∷ record { operator = Min; default = pos 100; rules = rule 3 (pos 20) ∷ [] }
          ∷ [];
      exclusions = [];
      conditions = record { sense = Above; threshold = pos 50; expression = join smaller (leaf 0) (leaf 1) } ∷ [];
    })
unfolding book_computes
printed-book = refl

-- numbers below zero; `>=`
signed-book : read (bytes "p max -5\nr 0 -20\nc -10 >= p0\n")
    ≡ result
    (record {
      policies = record { operator = Max; default = negsuc 4; rules = rule 0 (negsuc 19) ∷ [] } ∷ [];
      exclusions = [];
      conditions = record { sense = AtMost; threshold = negsuc 9; expression = leaf 0 } ∷ [];
    })
unfolding book_computes
signed-book = refl

empty-book : outcome "" ≡ counts 0 0
unfolding book_computes
empty-book = refl

-- the ranges at both ends
range-ends : outcome "p sum 10000\nr 0 0\nr 15 10000\np mul -10000\nr 0 0\nr 1 100\np max\nr 0 -10000\nr 1 10000\nc 200000 < p0\nc -200000 >= p2\n"
    ≡ counts 3 2
unfolding book_computes
range-ends = refl

-- 16 mentions fill a line of 128 bytes
unfoldable pub nested : ℕ → String
nested zero = "p0"
nested (suc n) = "min(" ++ nested n ++ "," ++ nested n ++ ")"

sixteen-mentions : outcome ("p sum\nc 0 < " ++ nested 4 ++ "\n") ≡ counts 1 1
unfolding nested book_computes
sixteen-mentions = refl

-- ---- exclusions

abbrev excluding : ℕ → ℕ → Exclusion
excluding a b = record { first = a; second = b }

-- before a policy, between policies and after the last one; the two signals as read
exclusion-book : read (bytes "x 3 2\np sum\nr 0 40\nx 0 15\np min 0\nx 1 0\nc 20 < p0\n")
    ≡ result
    (record {
      policies = record { operator = Sum; default = pos 0; rules = rule 0 (pos 40) ∷ [] } ∷ record { operator = Min; default = pos 0; rules = [] } ∷ [];
      exclusions = excluding 3 2 ∷ excluding 0 15 ∷ excluding 1 0 ∷ [];
      conditions = record { sense = Above; threshold = pos 20; expression = leaf 0 } ∷ [];
    })
unfolding book_computes
exclusion-book = refl

one-signal : outcome "x 1\n" ≡ refused 2 1
unfolding book_computes
one-signal = refl

three-signals : outcome "x 1 2 3\n" ≡ refused 2 1
unfolding book_computes
three-signals = refl

signed-signal : outcome "x -1 2\n" ≡ refused 2 1
unfolding book_computes
signed-signal = refl

after-condition : outcome "p sum\nc 0 < p0\nx 0 1\n" ≡ refused 3 3
unfolding book_computes
after-condition = refl

-- it ends the rules
rule-after : outcome "p sum\nr 0 1\nx 0 1\nr 1 1\n" ≡ refused 3 4
unfolding book_computes
rule-after = refl

-- sixteen different pairs
sixteen : String
sixteen = "x 0 1\nx 0 2\nx 0 3\nx 0 4\nx 0 5\nx 0 6\nx 0 7\nx 0 8\nx 0 9\nx 0 10\nx 0 11\nx 0 12\nx 0 13\nx 0 14\nx 0 15\nx 1 2\n"

sixteen-exclusions : outcome sixteen ≡ counts 0 0
unfolding sixteen book_computes
sixteen-exclusions = refl

-- the count comes before the range
seventeen-exclusions : outcome (sixteen ++ "x 1 1\n") ≡ refused 4 17
unfolding sixteen book_computes
seventeen-exclusions = refl

same-signal : outcome "x 1 1\n" ≡ refused 5 1
unfolding book_computes
same-signal = refl

first-sixteen : outcome "x 16 1\n" ≡ refused 5 1
unfolding book_computes
first-sixteen = refl

second-sixteen : outcome "x 1 16\n" ≡ refused 5 1
unfolding book_computes
second-sixteen = refl

pair-again : outcome "x 1 2\nx 1 2\n" ≡ refused 6 2
unfolding book_computes
pair-again = refl

pair-turned : outcome "x 1 2\nx 2 1\n" ≡ refused 6 2
unfolding book_computes
pair-turned = refl

-- one signal in two pairs
signal-again : outcome "x 1 2\nx 2 3\n" ≡ counts 0 0
unfolding book_computes
signal-again = refl
