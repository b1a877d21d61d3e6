-- Computed examples of reading: each refusal at its boundary, and the first of several reasons.
use Prim.Native.Nat.{ℕ, zero, suc}
use Prim.Native.String.{String, ◌++◌}
use mathlib.Core.Path.{◌≡◌, refl}
use lib.ListN.{replicate}
use Rattle.answers.specs.Answers.{refused}
use Rattle.book.specs.Books.{checked}
use Rattle.book.specs.Computing.{book_computes}
use Rattle.book.proofs.Examples.{outcome, counts, nested}

-- a text n times
times : ℕ → String → String
times zero s = ""
times (suc n) s = s ++ times n s

-- ---- 1: the book or a line is too long

long-book : checked (replicate 8193 10) ≡ refused 1 0
unfolding book_computes
long-book = refl

full-book : checked (replicate 8192 10) ≡ refused 2 1
unfolding book_computes
full-book = refl

long-line : outcome ("p sum\nc 10 < " ++ nested 4 ++ "\n") ≡ refused 1 2
unfolding nested book_computes
long-line = refl

-- a line of 129 bytes with no end is refused for its length
long-line-no-end : outcome (times 129 "x") ≡ refused 1 1
unfolding times book_computes
long-line-no-end = refl

full-line : outcome (times 128 "x" ++ "\n") ≡ refused 2 1
unfolding times book_computes
full-line = refl

-- ---- 2: no form, or no end

no_end : outcome "p sum\np sum" ≡ refused 2 2
unfolding book_computes
no_end = refl

-- lines above come first
no-end-later : outcome "r 0 1\np sum" ≡ refused 3 1
unfolding book_computes
no-end-later = refl

empty-line : outcome "p sum\n\n" ≡ refused 2 2
unfolding book_computes
empty-line = refl

minus-zero : outcome "p sum -0\n" ≡ refused 2 1
unfolding book_computes
minus-zero = refl

leading-zero : outcome "p sum 01\n" ≡ refused 2 1
unfolding book_computes
leading-zero = refl

seven-digits : outcome "p sum 1000000\n" ≡ refused 2 1
unfolding book_computes
seven-digits = refl

plus-sign : outcome "p sum +1\n" ≡ refused 2 1
unfolding book_computes
plus-sign = refl

two-spaces : outcome "p  sum 1\n" ≡ refused 2 1
unfolding book_computes
two-spaces = refl

last-space : outcome "p sum \n" ≡ refused 2 1
unfolding book_computes
last-space = refl

return-byte : outcome "p sum\r\n" ≡ refused 2 1
unfolding book_computes
return-byte = refl

five-fields : outcome "p sum\nc 5 < p0 p0\n" ≡ refused 2 2
unfolding book_computes
five-fields = refl

signal-with-sign : outcome "p sum\nr -1 5\n" ≡ refused 2 2
unfolding book_computes
signal-with-sign = refl

open-pair : outcome "p sum\nc 5 < min(p0,p0\n" ≡ refused 2 2
unfolding book_computes
open-pair = refl

after-pair : outcome "p sum\nc 5 < min(p0,p0))\n" ≡ refused 2 2
unfolding book_computes
after-pair = refl

-- ---- 3: out of place

rule-first : outcome "r 0 1\n" ≡ refused 3 1
unfolding book_computes
rule-first = refl

rule-after-condition : outcome "p sum\nc 5 < p0\nr 0 1\n" ≡ refused 3 3
unfolding book_computes
rule-after-condition = refl

policy-after-condition : outcome "p sum\nc 5 < p0\np sum\n" ≡ refused 3 3
unfolding book_computes
policy-after-condition = refl

-- ---- 4: one too many

seventeenth-policy : outcome (times 17 "p sum\n") ≡ refused 4 17
unfolding times book_computes
seventeenth-policy = refl

ninth-condition : outcome ("p sum\n" ++ times 9 "c 5 < p0\n") ≡ refused 4 10
unfolding times book_computes
ninth-condition = refl

eight-rules : String
eight-rules = "r 0 1\nr 1 1\nr 2 1\nr 3 1\nr 4 1\nr 5 1\nr 6 1\nr 7 1\n"

ninth-mul-rule : outcome ("p mul\n" ++ eight-rules ++ "r 8 1\n") ≡ refused 4 10
unfolding eight-rules book_computes
ninth-mul-rule = refl

ninth-sum-rule : outcome ("p sum\n" ++ eight-rules ++ "r 8 1\n") ≡ counts 1 0
unfolding eight-rules book_computes
ninth-sum-rule = refl

-- ---- 5: out of range, or no such policy

default-too-large : outcome "p sum 10001\n" ≡ refused 5 1
unfolding book_computes
default-too-large = refl

default-too-small : outcome "p mul -10001\n" ≡ refused 5 1
unfolding book_computes
default-too-small = refl

signal-sixteen : outcome "p sum\nr 16 1\n" ≡ refused 5 2
unfolding book_computes
signal-sixteen = refl

negative-sum : outcome "p sum\nr 0 -1\n" ≡ refused 5 2
unfolding book_computes
negative-sum = refl

mul-over-unit : outcome "p mul\nr 0 101\n" ≡ refused 5 2
unfolding book_computes
mul-over-unit = refl

threshold-too-small : outcome "p sum\nc -200001 < p0\n" ≡ refused 5 2
unfolding book_computes
threshold-too-small = refl

unknown-policy : outcome "p sum\nc 5 < max(p0,min(p0,p1))\n" ≡ refused 5 2
unfolding book_computes
unknown-policy = refl

no-policy : outcome "c 5 < p0\n" ≡ refused 5 1
unfolding book_computes
no-policy = refl

-- ---- 6: a signal twice in one policy, and not in two

signal-twice : outcome "p sum\nr 3 1\nr 4 1\nr 3 2\n" ≡ refused 6 4
unfolding book_computes
signal-twice = refl

signal-in-two : outcome "p sum\nr 3 1\np sum\nr 3 2\n" ≡ counts 2 0
unfolding book_computes
signal-in-two = refl

-- ---- the first of two reasons, in the order 1 to 6

three-before-four : outcome (times 16 "p sum\n" ++ "c 5 < p0\np sum\n") ≡ refused 3 18
unfolding times book_computes
three-before-four = refl

four-before-five : outcome ("p mul\n" ++ eight-rules ++ "r 16 1\n") ≡ refused 4 10
unfolding eight-rules book_computes
four-before-five = refl

four-before-six : outcome ("p mul\n" ++ eight-rules ++ "r 7 1\n") ≡ refused 4 10
unfolding eight-rules book_computes
four-before-six = refl

five-before-six : outcome "p sum\nr 3 1\nr 3 -2\n" ≡ refused 5 3
unfolding book_computes
five-before-six = refl

-- an earlier line comes first, whatever its reason
earlier-line : outcome "p sum\nr 3 1\nr 3 1\nx\n" ≡ refused 6 3
unfolding book_computes
earlier-line = refl
