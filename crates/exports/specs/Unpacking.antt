-- The answer told again from the number that a call returned, as the header's functions tell it.
use Rattle.std.specs.Prelude.{ℕ, ◌+◌, ◌-◌, ◌/◌, ◌%◌, pos, ◌-ℤ◌, Bool, cond, eqb, leb}
use Rattle.answers.specs.Answers.{Answer, result, refused}
use Rattle.checks.specs.Checks.{Choice, always, never, both, Chosen, Which, first, second, Comparison, alike, differ, declined}
use Rattle.book.specs.Books.{Counts}
use Rattle.score.specs.declared.exact.Exact.{Exact}
use Rattle.exports.specs.Packing.{from_bit5, from_bit16, from_bit32, from_bit48, below_zero, second_higher}

-- the code and the value
unfoldable pub code_in : ℕ → ℕ
code_in r = r % from_bit5

unfoldable pub value_in : ℕ → ℕ
value_in r = r / from_bit5

-- a code above 20 is the second listing's
unfoldable pub of_first : ℕ → Bool
of_first code = leb code 20

-- the refusal's number that a code stands for, or 0
unfoldable pub number_of : ℕ → ℕ
number_of code = cond (of_first code) code (code - second_higher)

-- the answer, from the result that a value stands for
unfoldable pub unpacked : {A : Type 0} → (ℕ → A) → ℕ → Answer A
unpacked result_in r = cond (eqb (code_in r) 0) (result (result_in (value_in r))) (refused (number_of (code_in r)) (value_in r))

-- ---- the results that values stand for

unfoldable pub counts_in : ℕ → Counts
counts_in v = record { policies = v % from_bit16; conditions = v / from_bit16 }

unfoldable pub yes_in : ℕ → Bool
yes_in v = eqb v 1

-- the score, beside the remainder that the call left
unfoldable pub score_in : ℕ → ℕ → Exact
score_in remainder v = record { hundredths = pos v -ℤ below_zero; remainder = remainder }

unfoldable pub choice_in : ℕ → Choice
choice_in v = cond (eqb v 0) always (cond (eqb v 1) never (both (v % from_bit32 / from_bit16) (v / from_bit32)))

-- the choice, and how many sets were judged
unfoldable pub chosen_in : ℕ → Chosen
chosen_in v = record { choice = choice_in (v % from_bit48); judged = v / from_bit48 + 1 }

-- one of the two listings, by a test for the first
unfoldable pub which_of : Bool → Which
which_of of_first = cond of_first first second

unfoldable pub difference_in : ℕ → Comparison
difference_in v = cond (eqb v 0) alike (differ (v / from_bit16) (which_of (eqb (v % from_bit16) 3)))

unfoldable pub comparison_in : ℕ → Comparison
comparison_in r = cond (eqb (code_in r) 0) (difference_in (value_in r)) (declined (which_of (of_first (code_in r))) (number_of (code_in r)) (value_in r))
