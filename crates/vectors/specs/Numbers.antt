-- The numbers of a text.
use Rattle.std.specs.Prelude.{ℕ, zero, suc, ◌+◌, ◌-◌, ◌*◌, ◌^◌, min, cond, List, [], ◌∷◌, eqb}
use Rattle.std.specs.Char.{is_ascii_digit}

-- the digit `0`
abbrev pub zero_digit : ℕ
zero_digit = 48

-- a number with one more digit: what is over the largest number of 32 bits is cut to that
unfoldable pub with_digit : ℕ → ℕ → ℕ
with_digit n b = min (n * 10 + (b - zero_digit)) (2 ^ 32 - 1)

-- the number n with the digits after it that a text begins with
unfoldable pub with_digits : ℕ → List ℕ → ℕ
with_digits n [] = n
with_digits n (b ∷ bs) = cond (is_ascii_digit b) (with_digits (with_digit n b) bs) n

-- what follows the byte that ends those digits
unfoldable pub after_digits : List ℕ → List ℕ
after_digits [] = []
after_digits (b ∷ bs) = cond (is_ascii_digit b) (after_digits bs) bs

-- the first numbers of a text, at most so many: each ends before a byte that is no digit, and the next begins after that
unfoldable pub first_numbers : ℕ → List ℕ → List ℕ
first_numbers zero bs = []
first_numbers (suc n) [] = []
first_numbers (suc n) (b ∷ bs) = with_digits 0 (b ∷ bs) ∷ first_numbers n (after_digits (b ∷ bs))

-- the space
abbrev pub space : ℕ
space = 32

-- a text without the space that it may begin with
unfoldable pub after_space : List ℕ → List ℕ
after_space [] = []
after_space (b ∷ bs) = cond (eqb b space) bs (b ∷ bs)
