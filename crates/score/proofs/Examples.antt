-- Computed examples of the scored decision on a book's bytes, with refusal 7 after every refusal of the book, and of the score itself.
use Prim.Native.Nat.{ℕ}
use Prim.Native.String.{String, ◌++◌}
use mathlib.Core.Bool.{true, false}
use mathlib.Core.Path.{◌≡◌, refl}
use lib.IntN.{ℤ, pos, negsuc}
use Rattle.answers.specs.Answers.{Answer, result, refused}
use Rattle.text.specs.Text.{bytes}
use Rattle.score.specs.Decisions.{scored_answer}
use Rattle.score.specs.Shown.{shown, shown_answer}
use Rattle.score.specs.declared.exact.Exact.{Exact}
use Rattle.score.specs.Computing.{score_computes}

-- two conditions on one policy
abbrev book : String
book = "p sum 10\nr 0 40\nc 20 < p0\nc 20 >= p0\n"

first-condition : scored_answer (bytes book) 0 1 ≡ result true
unfolding score_computes
first-condition = refl

second-condition : scored_answer (bytes book) 1 1 ≡ result false
unfolding score_computes
second-condition = refl

no_third : scored_answer (bytes book) 2 1 ≡ refused 7 0
unfolding score_computes
no_third = refl

-- the whole book is judged before 7, whichever condition is asked for
book-first : scored_answer (bytes (book ++ "x\n")) 2 1 ≡ refused 2 5
unfolding score_computes
book-first = refl

-- ---- change request 3: the score itself

-- hundredths and a remainder, shown
abbrev pair : ℤ → ℕ → Answer Exact
pair h r = result (record { hundredths = h; remainder = r })

-- what is shown of condition 0 of a book on a set
abbrev shows : String → ℕ → Answer Exact
shows text set = shown_answer (bytes text) 0 set

-- a product of rules 0 to 7 with one score each
abbrev eight : String → String
eight v = "p mul\nr 0 " ++ v ++ "\nr 1 " ++ v ++ "\nr 2 " ++ v ++ "\nr 3 " ++ v ++ "\nr 4 " ++ v ++ "\nr 5 " ++ v ++ "\nr 6 " ++ v ++ "\nr 7 " ++ v ++ "\nc 0 < p0\n"

-- eight scores of 1: the smallest remainder that there is
finest : shows (eight "1") 255 ≡ pair (pos 0) 1
unfolding score_computes
finest = refl

eight-of-99 : shows (eight "99") 255 ≡ pair (pos 92) 27446944279201
unfolding score_computes
eight-of-99 = refl

-- a default below zero is whole
below-zero : shows "p max -5\nr 0 -20\nc -10 < p0\n" 0 ≡ pair (negsuc 4) 0
unfolding score_computes
below-zero = refl

-- no score below zero has a remainder; if one had, it would be rounded down: -5.75 is -6 and a fourth
rounded-down : shown (negsuc 574999999999999) ≡ record { hundredths = negsuc 5; remainder = 25000000000000 }
unfolding score_computes
rounded-down = refl

-- two products of 25 hundredths that differ in the remainder alone
abbrev products : String → String
products condition = "p mul\nr 0 50\nr 1 50\np mul\nr 0 51\nr 1 50\n" ++ condition

smaller-remainder : shows (products "c 25 < min(p1,p0)\n") 3 ≡ pair (pos 25) 0
unfolding score_computes
smaller-remainder = refl

larger-remainder : shows (products "c 25 < max(p0,p1)\n") 3 ≡ pair (pos 25) 50000000000000
unfolding score_computes
larger-remainder = refl

-- at T = 25 the remainder alone decides
remainder-decides : scored_answer (bytes (products "c 25 < max(p0,p1)\n")) 0 3 ≡ result true
unfolding score_computes
remainder-decides = refl

-- refused as the decision is
shown-refused : shown_answer (bytes (book ++ "x\n")) 2 1 ≡ refused 2 5
unfolding score_computes
shown-refused = refl

shown-no-third : shown_answer (bytes book) 2 1 ≡ refused 7 0
unfolding score_computes
shown-no-third = refl
