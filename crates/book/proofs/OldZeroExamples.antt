-- Computed examples of reading: defaults that are left out, with an `o` and without, and books from before it.
use Prim.Native.String.{String}
use mathlib.Core.List.{[], ◌∷◌}
use mathlib.Core.Logic.{inl, inr}
use mathlib.Core.Path.{◌≡◌, refl}
use lib.IntN.{ℤ, pos, negsuc}
use Rattle.answers.specs.Answers.{Answer, result, refused}
use Rattle.peal.specs.Policies.{Book}
use Rattle.peal.specs.declared.Operator.TheVariants.{Min, Max, Sum, Mul}
use Rattle.text.specs.Text.{bytes, text_lines}
use Rattle.book.specs.Acceptance.{no_rules}
use Rattle.book.specs.Books.{read}
use Rattle.book.specs.OldBooks.{read_before, line_below, ZerosWritten}
use Rattle.book.specs.Computing.{book_computes}
use Rattle.book.proofs.Examples.{outcome, counts}

-- ---- a missing default

-- the book of a policy of each operator, with these defaults
abbrev defaults : (min max sum mul : ℤ) → Answer Book
defaults a b c d = result (record { policies = no_rules Min a ∷ no_rules Max b ∷ no_rules Sum c ∷ no_rules Mul d ∷ []; exclusions = []; conditions = [] })

missing-defaults : read (bytes "p min\np max\np sum\np mul\n") ≡ defaults (pos 100) (pos 0) (pos 0) (pos 100)
unfolding book_computes
missing-defaults = refl

old-defaults : read (bytes "o\np min\np max\np sum\np mul\n") ≡ defaults (pos 0) (pos 0) (pos 0) (pos 0)
unfolding book_computes
old-defaults = refl

-- a default that is given stays, with `o` and without
given-defaults : read (bytes "p min 0\np max 7\np sum 100\np mul -7\n") ≡ defaults (pos 0) (pos 7) (pos 100) (negsuc 6)
unfolding book_computes
given-defaults = refl

old-given-defaults : read (bytes "o\np min 100\np max 7\np sum 100\np mul -7\n") ≡ defaults (pos 100) (pos 7) (pos 100) (negsuc 6)
unfolding book_computes
old-given-defaults = refl

-- the `o` is no part of the book, and lasts to its end
old-to-the-end : read (bytes "o\nx 0 1\np sum\nr 0 1\np min\nc 0 < p1\n") ≡ read (bytes "x 0 1\np sum 0\nr 0 1\np min 0\nc 0 < p1\n")
unfolding book_computes
old-to-the-end = refl

old-alone : outcome "o\n" ≡ counts 0 0
unfolding book_computes
old-alone = refl

old-with-number : outcome "o 1\n" ≡ refused 2 1
unfolding book_computes
old-with-number = refl

old-last-space : outcome "o \n" ≡ refused 2 1
unfolding book_computes
old-last-space = refl

old-no-end : outcome "o" ≡ refused 2 1
unfolding book_computes
old-no-end = refl

old-longer : outcome "oo\n" ≡ refused 2 1
unfolding book_computes
old-longer = refl

old-twice : outcome "o\no\n" ≡ refused 3 2
unfolding book_computes
old-twice = refl

old-after-policy : outcome "p min\no\n" ≡ refused 3 2
unfolding book_computes
old-after-policy = refl

old-last : outcome "p min\nc 0 < p0\no\n" ≡ refused 3 3
unfolding book_computes
old-last = refl

-- it opens no rules
rule-after-old : outcome "o\nr 0 1\n" ≡ refused 3 2
unfolding book_computes
rule-after-old = refl

-- ---- a book from before the `o`: its 0 written, and as it is

abbrev before : String
before = "p min\nr 0 70\np sum\nc 0 < min(p0,p1)\n"

abbrev mended : String
mended = "p min 0\nr 0 70\np sum\nc 0 < min(p0,p1)\n"

zero-written : ZerosWritten (text_lines (bytes before)) (text_lines (bytes mended))
unfolding book_computes
zero-written = (inr (Min, refl, refl), (inl refl, (inl refl, (inl refl, tt))))

mended-read : read (bytes mended) ≡ read_before (bytes before)
unfolding read_before book_computes
mended-read = refl

-- with an `o` above it a refusal names the line below
marked-refusal : read (bytes "o\np min\nr 16 5\n") ≡ line_below (read_before (bytes "p min\nr 16 5\n"))
unfolding read_before line_below book_computes
marked-refusal = refl
