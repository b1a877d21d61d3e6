-- An answer as the one number that a call returns: bits 0 to 4 hold a code, the bits from 5 on hold the value.
-- The code is 0 where the call was accepted, and else the refusal's number: 1 to 11 today, and there is room up to 20;
-- the refusals 9 and 10 of the second listing of a comparison have the codes 25 and 26.
use Rattle.std.specs.Prelude.{ℕ, ◌+◌, ◌-◌, ◌*◌, ◌/◌, ◌%◌, ◌^◌, List, ◌≡◌, ℤ, pos, nat_abs, ◌+ℤ◌, length}
use Rattle.answers.specs.Answers.{Answer, result, refused}
use Rattle.rod.specs.Traversing.{traversed, answer_count, answers_after}
use Rattle.checks.specs.Checks.{Choice, always, never, both, Chosen, Comparison, alike, differ, declined, first, second}
use Rattle.book.specs.Books.{Counts}
use Rattle.score.specs.Shown.{shown_answer}
use Rattle.score.specs.declared.exact.Exact.{Exact}
use Rattle.compiler.specs.Compiling.{compiled, returned, left_by}

-- ---- where things stand

-- the weight of the value in the number
abbrev pub from_bit5 : ℕ
from_bit5 = 2 ^ 5

-- in a value, the weight of what stands from bit 16 of the number on, from bit 32 on, and from bit 48 on
abbrev pub from_bit16 : ℕ
from_bit16 = 2 ^ 16 / from_bit5

abbrev pub from_bit32 : ℕ
from_bit32 = 2 ^ 32 / from_bit5

abbrev pub from_bit48 : ℕ
from_bit48 = 2 ^ 48 / from_bit5

-- beyond every value: 2 to the 59
abbrev pub value_end : ℕ
value_end = 2 ^ 64 / from_bit5

-- the lowest score is so many hundredths below zero
abbrev pub below_zero : ℤ
below_zero = pos 10000

-- by so much the code of a refusal is higher where it is the second listing's
abbrev pub second_higher : ℕ
second_higher = 16

-- ---- an answer

abbrev pub as_one : (code value : ℕ) → ℕ
as_one code value = code + from_bit5 * value

-- the code of a refusal of the second listing
abbrev pub of_second : ℕ → ℕ
of_second number = number + second_higher

-- on a refusal the value is the line or record beside it, otherwise that of the result
unfoldable pub packed : {A : Type 0} → (A → ℕ) → Answer A → ℕ
packed value_of (result a) = as_one 0 (value_of a)
packed value_of (refused number value) = as_one number value

-- ---- the values of results; for yes and no it is `one_if`

-- the check of a book: policies, and from bit 16 of the number on conditions
unfoldable pub counts_value : Counts → ℕ
counts_value n = n.policies + from_bit16 * n.conditions

-- the score: its hundredths, counted from the lowest that there is
unfoldable pub score_value : Exact → ℕ
score_value x = nat_abs (x.hundredths +ℤ below_zero)

-- and the number that is lent to the call, afterwards: the remainder, or as it was where the call refuses
unfoldable pub remainder_after : ℕ → Answer Exact → ℕ
remainder_after lent (result x) = x.remainder
remainder_after lent (refused number value) = lent

-- the score's call: the number that it returned, and the one that it left
pub record ScoreTold (bytes : List ℕ) (condition set lent number left : ℕ) : Type 0 where
  pub packing : number ≡ packed score_value (shown_answer bytes condition set)
  pub leaving : left ≡ remainder_after lent (shown_answer bytes condition set)

-- compiling: the number of records itself
abbrev pub itself : ℕ → ℕ
itself n = n

-- compiling's call: the number that it returned, and the words that it left
pub record CompilingTold (bytes : List ℕ) (condition : ℕ) (lent : List ℕ) (number : ℕ) (left : List ℕ) : Type 0 where
  pub packing : number ≡ packed itself (returned (compiled bytes condition (length lent)))
  pub leaving : left ≡ left_by bytes condition lent

-- a traverse: the number of answers, modulo 2 to the 59, since 59 bits are left for it
unfoldable pub answers_value : ℕ → ℕ
answers_value n = n % value_end

-- the traverse's call: the number that it returned, and the answers that it left
pub record TraverseTold (words sets lent : List ℕ) (number : ℕ) (left : List ℕ) : Type 0 where
  pub packing : number ≡ packed answers_value (answer_count (traversed words sets lent))
  pub leaving : left ≡ answers_after lent (traversed words sets lent)

-- the choice check: which it is, and for both from bit 16 on the lowest set that gives yes, from bit 32 on the lowest that gives no
unfoldable pub choice_value : Choice → ℕ
choice_value always = 0
choice_value never = 1
choice_value (both y n) = 2 + from_bit16 * y + from_bit32 * n

-- and from bit 48 on how many sets were judged, less one: at least the empty set is, and at most 65,536 are
unfoldable pub chosen_value : Chosen → ℕ
chosen_value c = choice_value c.choice + from_bit48 * (c.judged - 1)

-- the comparison: 0 alike, 1 where the second says yes, 3 where the first does, and from bit 16 on the lowest set where they differ
unfoldable pub packed_comparison : Comparison → ℕ
packed_comparison alike = as_one 0 0
packed_comparison (differ set first) = as_one 0 (3 + from_bit16 * set)
packed_comparison (differ set second) = as_one 0 (1 + from_bit16 * set)
packed_comparison (declined first number value) = as_one number value
packed_comparison (declined second number value) = as_one (of_second number) value
