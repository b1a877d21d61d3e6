-- Computed examples of the rod's reading of a condition just compiled, of what rod and logger say of it, and of a listing from before change request 4.
use Prim.Native.Nat.{ℕ}
use Prim.Native.String.{String, ◌++◌}
use mathlib.Core.Bool.{Bool, true, false}
use mathlib.Core.List.{List, [], ◌∷◌}
use mathlib.Core.Path.{◌≡◌, refl}
use lib.ListN.{replicate}
use Rattle.answers.specs.Answers.{Answer, result, refused, on_result}
use Rattle.layout.specs.Records.{words}
use Rattle.rod.specs.Computing.{rod_computes}
use Rattle.peal.specs.Policies.{Condition, Book}
use Rattle.peal.specs.Lines.{has}
use Rattle.text.specs.Text.{bytes}
use Rattle.book.specs.Books.{asked}
use Rattle.score.specs.Decisions.{scored_answer}
use Rattle.score.specs.Computing.{score_computes}
use Rattle.compiler.specs.Computing.{compiler_computes}
use Rattle.agreement.specs.CompiledReading.{compiled_reading}
use Rattle.agreement.specs.Both.{Sayings, both_say}
use Rattle.agreement.specs.OldListings.{minimal_before, lines_before, listed_before, records_before}

-- a book whose listing has two records, and just enough words
abbrev reads : ℕ → ℕ → Answer Bool
reads number set = compiled_reading (bytes "p sum\nr 0 40\nc 20 < p0\n") number set (9 ∷ 9 ∷ 9 ∷ 9 ∷ 9 ∷ 9 ∷ 9 ∷ 9 ∷ [])

reads-yes : reads 0 3 ≡ result true
unfolding compiled_reading compiler_computes rod_computes
reads-yes = refl

reads-no : reads 0 2 ≡ result false
unfolding compiled_reading compiler_computes rod_computes
reads-no = refl

no-condition : reads 1 3 ≡ refused 7 0
unfolding compiled_reading compiler_computes
no-condition = refl

-- ---- rod and logger

-- the same book, for so many lent words
abbrev both : ℕ → ℕ → ℕ → Answer Sayings
both number set lent = both_say (bytes "p sum\nr 0 40\nc 20 < p0\n") number set lent

both_yes : both 0 3 8 ≡ result (record { records = 2; rod = result true; logger = result true })
unfolding both_say compiler_computes
both_yes = refl

both-no : both 0 2 8 ≡ result (record { records = 2; rod = result false; logger = result false })
unfolding both_say compiler_computes
both-no = refl

-- a word too few; and the condition's number is tried before the room
no_room : both 0 3 7 ≡ refused 8 0
unfolding both_say compiler_computes
no_room = refl

not-in-book : both 1 3 0 ≡ refused 7 0
unfolding both_say compiler_computes
not-in-book = refl

-- ---- a missing default: the rod and the logger go by the one in force

-- a `min` and a `mul` policy that leave it out
doubts : String
doubts = "p min\nr 0 40\np mul\nr 1 40\nc 20 < min(p0,p1)\n"

-- what the rod says of the compiled listing, and the logger of the book
abbrev say : String → ℕ → Answer Bool × Answer Bool
say book set = (compiled_reading (bytes book) 0 set (replicate 20 9), scored_answer (bytes book) 0 set)

-- with no rule present both policies score 100
missing-yes : say doubts 0 ≡ (result true, result true)
unfolding doubts compiled_reading compiler_computes rod_computes score_computes
missing-yes = refl

-- after an `o` they score 0
missing-old-no : say ("o\n" ++ doubts) 0 ≡ (result false, result false)
unfolding doubts compiled_reading compiler_computes rod_computes score_computes
missing-old-no = refl

-- with both rules present the default does not count
missing-old-yes : say ("o\n" ++ doubts) 3 ≡ (result true, result true)
unfolding doubts compiled_reading compiler_computes rod_computes score_computes
missing-old-yes = refl

-- ---- a listing from before change request 4

-- the words of the book's first condition as they were
abbrev words_before : String → Answer (List ℕ)
words_before text = on_result (asked (bytes text) 0) (λ (found : Book × Condition). result (words (records_before found.0 found.1)))

-- case h as document 01 has it, book A with `c -1 < p0`: kind 17, one line, mask 0
before-h : words_before "p sum 0\nr 0 40\nr 1 30\nr 2 30\np min 100\nr 3 20\nc -1 < p0\n" ≡ result (17 ∷ 7 ∷ 2 ∷ 0 ∷ 4 ∷ 0 ∷ 0 ∷ 0 ∷ [])
unfolding minimal_before lines_before listed_before records_before has compiler_computes
before-h = refl
