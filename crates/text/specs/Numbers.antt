-- Numbers (document 01, "The book": an optional `-` and one to six digits, no leading zero, no `-0`; S and policy numbers have no `-`).
use Rattle.std.specs.Prelude.{ℕ, zero, suc, ◌+◌, ◌-◌, ◌*◌, Bool, true, cond, not, ◌&&◌, List, [], ◌∷◌, leb, eqb, ℤ, pos, negsuc, length}
use Rattle.std.proofs.Math.Option.{Option, none, some, map}
use Rattle.arith.specs.Options.{◌>>=◌, if◌then◌}

-- the digit `0`
abbrev pub zero_digit : ℕ
zero_digit = 48

-- the digits are bytes 48 to 57
unfoldable pub is_digit : ℕ → Bool
is_digit b = leb zero_digit b && leb b 57

-- the number n with further digits after it; nothing where a byte is no digit
unfoldable pub with_digits : ℕ → List ℕ → Option ℕ
with_digits n [] = some n
with_digits n (b ∷ s) = if is_digit b then with_digits (n * 10 + (b - zero_digit)) s

-- 0 stands first only where it is the only digit
unfoldable pub no_leading_zero : List ℕ → Bool
no_leading_zero [] = true
no_leading_zero (b ∷ []) = true
no_leading_zero (b ∷ c ∷ s) = not (eqb b zero_digit)

-- one to six digits, no leading zero
unfoldable pub natural : List ℕ → Option ℕ
natural s = if leb 1 (length s) && leb (length s) 6 && no_leading_zero s then with_digits 0 s

-- what digits mean after a `-`: no `-0`
unfoldable pub negated : ℕ → Option ℤ
negated zero = none
negated (suc n) = some (negsuc n)

-- the value of a spelling in hundredths: an optional `-`, byte 45, and digits
unfoldable pub number : List ℕ → Option ℤ
number [] = none
number (b ∷ s) = cond (eqb b 45) (natural s >>= negated) (map pos (natural (b ∷ s)))
