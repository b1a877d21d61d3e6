-- The score itself (change request 3): E in hundredths, rounded toward minus infinity, with the exact remainder.
use Rattle.std.specs.Prelude.{ℕ, ◌/◌, ◌%◌, ◌-◌, ◌^◌, Bool, not, cond, ◌&&◌, ◌||◌, List, ltb, leb, ℤ, pos, negsuc}
use Rattle.std.specs.Int.Signed.{le_z, lt_z}
use Rattle.answers.specs.Answers.{Answer, result, on_result}
use Rattle.peal.specs.Policies.{MinMax, smaller, larger}
use Rattle.peal.specs.Score.{score}
use Rattle.peal.specs.declared.Sense.{Sense}
use Rattle.peal.specs.declared.Sense.TheVariants.{Above, AtMost}
use Rattle.book.specs.Books.{asked}
use Rattle.score.specs.declared.exact.Exact.{Exact}

-- a score in parts, of which a hundredth has 10 to the 14, as a pair: whole hundredths, and the parts beyond them;
-- below zero they are rounded down too, and the remainder counts up from them
unfoldable pub shown : ℤ → Exact
shown (pos n) = record { hundredths = pos (n / 10 ^ 14); remainder = n % 10 ^ 14 }
shown (negsuc n) = record { hundredths = negsuc (n / 10 ^ 14); remainder = 10 ^ 14 - 1 - n % 10 ^ 14 }

-- the score of the condition of that number on a signal set, or refusals 1 to 7
unfoldable pub shown_answer : List ℕ → ℕ → ℕ → Answer Exact
shown_answer bytes number set = on_result (asked bytes number) (λ (b, c). result (shown (score b.policies set c.expression)))

-- ---- pairs compared

-- two numbers are the same
unfoldable pub equal : ℤ → ℤ → Bool
equal a b = le_z a b && le_z b a

-- fewer hundredths, or as many and no larger a remainder
unfoldable pub at_most : Exact → Exact → Bool
at_most x y = lt_z x.hundredths y.hundredths || equal x.hundredths y.hundredths && leb x.remainder y.remainder

-- the smaller or the larger of two pairs
unfoldable pub of_pairs : MinMax → Exact → Exact → Exact
of_pairs smaller x y = cond (at_most x y) x y
of_pairs larger x y = cond (at_most x y) y x

-- T is less than E: the hundredths exceed T, or equal it with a remainder above zero
unfoldable pub exceeds : ℤ → Exact → Bool
exceeds t x = lt_z t x.hundredths || equal t x.hundredths && ltb 0 x.remainder

-- a pair meets `c T < E` where T is less than it, and `c T >= E` where it is not
unfoldable pub meets_shown : Sense → ℤ → Exact → Bool
meets_shown Above t x = exceeds t x
meets_shown AtMost t x = not (exceeds t x)
