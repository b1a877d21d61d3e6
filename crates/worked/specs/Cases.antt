-- "One book in full", cases a to j of "Corners held fast" in the order of the table, and what the change requests add:
-- each one computed comparison.
use Prim.Native.String.{String, ◌++◌}
use Rattle.std.specs.Prelude.{◌≡◌, refl, [], ◌∷◌, pos, negsuc}
use Rattle.answers.specs.Answers.{result}
use Rattle.checks.specs.Checks.{both}
use Rattle.peal.specs.Score.{scaled}
use Rattle.worked.specs.Computing as W
use Rattle.worked.specs.Computing.{listing, decides, scores, shows, chooses, traverses, ◌&◌, all_compute}

-- book A with the condition given
unfoldable pub A : String → String
A condition = "p sum 0\nr 0 40\nr 1 30\nr 2 30\np min 100\nr 3 20\n" ++ condition

-- book A as printed
unfoldable pub printed : String
printed = A "c 50 < min(p0,p1)\n"

-- the book of cases f and g with the condition given
unfoldable pub halves : String → String
halves condition = "p mul 100\nr 0 50\nr 1 50\n" ++ condition

-- One book in full: its 28 words, and its choice, for which sets 0 to 3 are judged.
full-words : listing printed
    ≡ result
    (16 ∷ 7 ∷ 2 ∷ 5
    ∷ 4 ∷ 5 ∷ 0 ∷ 3
    ∷ 4 ∷ 3 ∷ 0 ∷ 4
    ∷ 4 ∷ 6 ∷ 0 ∷ 0
    ∷ 19 ∷ 8 ∷ 6 ∷ 7
    ∷ 4 ∷ 8 ∷ 0 ∷ 0
    ∷ 2 ∷ 0 ∷ 0 ∷ 0 ∷ [])
unfolding A printed all_compute
full-words = refl

full-choice : chooses printed ≡ result (record { choice = both 3 0; judged = 4 })
unfolding A printed all_compute
full-choice = refl

-- a: A as printed, set 3: yes
case-a : decides printed 3 ≡ W.yes
unfolding A printed all_compute
case-a = refl

-- b: same, set 0: no
case-b : decides printed 0 ≡ W.no
unfolding A printed all_compute
case-b = refl

-- c: same, set 11: no, p1 scores 20
case-c : decides printed 11 & scores printed 1 11 ≡ W.no & result (scaled (pos 20))
unfolding A printed all_compute
case-c = refl

-- d: A, `c 60 < p0`, set 6: no
case-d : decides (A "c 60 < p0\n") 6 ≡ W.no
unfolding A all_compute
case-d = refl

-- e: A, `c 60 >= p0`, set 6: yes
case-e : decides (A "c 60 >= p0\n") 6 ≡ W.yes
unfolding A all_compute
case-e = refl

-- f: `p mul 100`, rules 0 and 1 at 50, `c 25 >= p0`, set 3: yes, one line, mask 3
case-f : decides (halves "c 25 >= p0\n") 3 & listing (halves "c 25 >= p0\n")
    ≡ W.yes & result (16 ∷ 3 ∷ 2 ∷ 0 ∷ 4 ∷ 3 ∷ 0 ∷ 0 ∷ [])
unfolding halves all_compute
case-f = refl

-- g: same with 24: no, no lines
case-g : decides (halves "c 24 >= p0\n") 3 & listing (halves "c 24 >= p0\n")
    ≡ W.no & result (16 ∷ 3 ∷ 0 ∷ 0 ∷ [])
unfolding halves all_compute
case-g = refl

-- h, as change request 4 has it: A, `c -1 < p0`: kind 17, lines 1, 4, 2
case-h : listing (A "c -1 < p0\n") ≡ result (17 ∷ 7 ∷ 2 ∷ 0 ∷ 4 ∷ 1 ∷ 0 ∷ 3 ∷ 4 ∷ 4 ∷ 0 ∷ 4 ∷ 4 ∷ 2 ∷ 0 ∷ 0 ∷ [])
unfolding A all_compute
case-h = refl

-- the book of case i: `p max -5`, rule 0 at −20, `c -10 < p0`
unfoldable pub below_zero : String
below_zero = "p max -5\nr 0 -20\nc -10 < p0\n"

-- i: set 0 yes, set 1 no, no lines
case-i : decides below_zero 0 & decides below_zero 1 & listing below_zero
    ≡ W.yes & W.no & result (17 ∷ 1 ∷ 0 ∷ 0 ∷ [])
unfolding below_zero all_compute
case-i = refl

-- j, as change request 2 has it: `p min 0`, no rules, `c 0 < p0`: one record 18 0 0 0
case-j : listing "p min 0\nc 0 < p0\n" ≡ result (18 ∷ 0 ∷ 0 ∷ 0 ∷ [])
unfolding all_compute
case-j = refl

-- ---- change request 1: signals that can't stand together

-- three rules of which any two exceed 50, and two of their signals that never occur together
unfoldable pub apart : String
apart = "x 0 1\np sum 0\nr 0 40\nr 1 30\nr 2 30\nc 50 < p0\n"

-- the listing begins with the pair
pairs-words : listing apart
    ≡ result
    (5 ∷ 3 ∷ 0 ∷ 2
    ∷ 16 ∷ 7 ∷ 3 ∷ 0
    ∷ 4 ∷ 5 ∷ 0 ∷ 4
    ∷ 4 ∷ 3 ∷ 0 ∷ 5
    ∷ 4 ∷ 6 ∷ 0 ∷ 0 ∷ [])
unfolding apart all_compute
pairs-words = refl

-- the choice check passes over set 3, on which logger and rod say yes all the same: of sets 0 to 5 it judges five
pairs-choice : chooses apart & decides apart 3 ≡ result (record { choice = both 5 0; judged = 5 }) & W.yes
unfolding apart all_compute
pairs-choice = refl

-- ---- change request 2: a missing default

-- case j with its default left out: a full score, so yes with no rule present
unfoldable pub missing : String
missing = "p min\nc 0 < p0\n"

missing-full : listing missing & decides missing 0 ≡ result (19 ∷ 0 ∷ 0 ∷ 0 ∷ []) & W.yes
unfolding missing all_compute
missing-full = refl

-- after an `o` it is the old zero, and the listing is case j's
missing-old : listing ("o\n" ++ missing) & decides ("o\n" ++ missing) 0 ≡ result (18 ∷ 0 ∷ 0 ∷ 0 ∷ []) & W.no
unfolding missing all_compute
missing-old = refl

-- ---- change request 3: the score itself

-- case c: E is 20 hundredths, with no remainder
score-c : shows printed 11 ≡ result (record { hundredths = pos 20; remainder = 0 })
unfolding A printed all_compute
score-c = refl

-- cases f and g: the product is 25 hundredths, so `25 >=` is met and `24 >=` is not
score-f : shows (halves "c 25 >= p0\n") 3 & shows (halves "c 24 >= p0\n") 3
    ≡ result (record { hundredths = pos 25; remainder = 0 }) & result (record { hundredths = pos 25; remainder = 0 })
unfolding halves all_compute
score-f = refl

-- case i: a default below zero
score-i : shows below_zero 0 ≡ result (record { hundredths = negsuc 4; remainder = 0 })
unfolding below_zero all_compute
score-i = refl

-- ---- change request 4: lines that demand nothing

-- a mul policy under a threshold of 100: each rule is a line, one that scores 100 too, under either sense
unfoldable pub at_unit : String → String
at_unit condition = "p mul 100\nr 0 50\nr 1 100\n" ++ condition

mul-at-unit : listing (at_unit "c 100 >= p0\n") & listing (at_unit "c 100 < p0\n")
    ≡ result (17 ∷ 3 ∷ 2 ∷ 0 ∷ 4 ∷ 1 ∷ 0 ∷ 3 ∷ 4 ∷ 2 ∷ 0 ∷ 0 ∷ []) & result (18 ∷ 3 ∷ 2 ∷ 0 ∷ 4 ∷ 1 ∷ 0 ∷ 3 ∷ 4 ∷ 2 ∷ 0 ∷ 0 ∷ [])
unfolding at_unit all_compute
mul-at-unit = refl

-- a sum policy under a threshold below 0: a rule that scores 0 is a line, under either sense
zero-is-a-line : listing "p sum 0\nr 0 0\nc -1 < p0\n" & listing "p sum 0\nr 0 0\nc -1 >= p0\n"
    ≡ result (17 ∷ 1 ∷ 2 ∷ 0 ∷ 4 ∷ 1 ∷ 0 ∷ 0 ∷ []) & result (18 ∷ 1 ∷ 2 ∷ 0 ∷ 4 ∷ 1 ∷ 0 ∷ 0 ∷ [])
unfolding all_compute
zero-is-a-line = refl

-- without rules neither has a line
no-rules : listing "p sum 0\nc -1 < p0\n" & listing "p mul 100\nc 100 >= p0\n" ≡ result (17 ∷ 0 ∷ 0 ∷ 0 ∷ []) & result (17 ∷ 0 ∷ 0 ∷ 0 ∷ [])
unfolding all_compute
no-rules = refl

-- ---- change request 6: a whole traverse

-- cases a, b and c together, then a set that holds three lines, one that holds none, and case a again
whole-traverse : traverses printed (3 ∷ 0 ∷ 11 ∷ 7 ∷ 4 ∷ 3 ∷ []) ≡ result (1 ∷ 0 ∷ 0 ∷ 1 ∷ 0 ∷ 1 ∷ [])
unfolding A printed all_compute
whole-traverse = refl

-- ---- change request 12: same lines, same policy

-- two of three marks, asked by a sum of what was found and by a product of the doubt that each leaves
unfoldable pub marks : String → String
marks condition = "p sum 0\nr 0 30\nr 1 30\nr 2 30\np mul 100\nr 0 40\nr 1 50\nr 2 50\n" ++ condition

-- kind 16, mask 7 and the lines 3, 5 and 6, for each in an order of its own
other-order : listing (marks "c 50 < p0\n") & listing (marks "c 30 >= p1\n")
    ≡ result (16 ∷ 7 ∷ 2 ∷ 0 ∷ 4 ∷ 6 ∷ 0 ∷ 3 ∷ 4 ∷ 5 ∷ 0 ∷ 4 ∷ 4 ∷ 3 ∷ 0 ∷ 0 ∷ [])
    & result (16 ∷ 7 ∷ 2 ∷ 0 ∷ 4 ∷ 5 ∷ 0 ∷ 3 ∷ 4 ∷ 3 ∷ 0 ∷ 4 ∷ 4 ∷ 6 ∷ 0 ∷ 0 ∷ [])
unfolding marks all_compute
other-order = refl
