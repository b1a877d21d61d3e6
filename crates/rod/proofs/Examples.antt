-- Computed examples of the rod's reading, and of traverses.
use mathlib.Core.Bool.{true, false}
use mathlib.Core.List.{[], ◌∷◌}
use mathlib.Core.Path.{◌≡◌, refl}
use Rattle.answers.specs.Answers.{result, refused}
use Rattle.rod.specs.Reading.{rod_answer}
use Rattle.rod.specs.Traversing.{traversed, answer_count, answers_after}
use Rattle.rod.specs.Computing.{rod_computes}

-- the mask shares no signal with the set: quiet, also where turned is 1
quiet-yes : rod_answer (19 ∷ 1 ∷ 0 ∷ 0 ∷ []) 6 ≡ result true
unfolding rod_computes
quiet-yes = refl

quiet-no : rod_answer (18 ∷ 1 ∷ 0 ∷ 0 ∷ []) 6 ≡ result false
unfolding rod_computes
quiet-no = refl

-- a line inside the set; turned over
line-inside : rod_answer (16 ∷ 7 ∷ 2 ∷ 0 ∷ 4 ∷ 5 ∷ 0 ∷ 0 ∷ []) 13 ≡ result true
unfolding rod_computes
line-inside = refl

line-turned : rod_answer (18 ∷ 7 ∷ 2 ∷ 0 ∷ 4 ∷ 5 ∷ 0 ∷ 0 ∷ []) 13 ≡ result false
unfolding rod_computes
line-turned = refl

-- a line that only shares signals with the set is not inside it
line-partly : rod_answer (17 ∷ 7 ∷ 2 ∷ 0 ∷ 4 ∷ 5 ∷ 0 ∷ 0 ∷ []) 4 ≡ result false
unfolding rod_computes
line-partly = refl

-- a line of mask 0 lies inside every set
empty-line : rod_answer (16 ∷ 7 ∷ 2 ∷ 0 ∷ 4 ∷ 0 ∷ 0 ∷ 0 ∷ []) 2 ≡ result true
unfolding rod_computes
empty-line = refl

-- "and" and "or" of a yes and a no
one-of-two-and : rod_answer (17 ∷ 0 ∷ 0 ∷ 2 ∷ 16 ∷ 0 ∷ 0 ∷ 3 ∷ 2 ∷ 0 ∷ 0 ∷ 0 ∷ []) 0 ≡ result false
unfolding rod_computes
one-of-two-and = refl

one-of-two-or : rod_answer (17 ∷ 0 ∷ 0 ∷ 2 ∷ 16 ∷ 0 ∷ 0 ∷ 3 ∷ 3 ∷ 0 ∷ 0 ∷ 0 ∷ []) 0 ≡ result true
unfolding rod_computes
one-of-two-or = refl

-- a declined listing
declined-length : rod_answer (17 ∷ 0 ∷ 0 ∷ []) 0 ≡ refused 9 0
unfolding rod_computes
declined-length = refl

declined-record : rod_answer (17 ∷ 0 ∷ 0 ∷ 2 ∷ 16 ∷ 0 ∷ 0 ∷ 0 ∷ []) 0 ≡ refused 10 2
unfolding rod_computes
declined-record = refl

-- the rod reads past excluded pairs, and decides on sets that hold one too
past-a-pair : rod_answer (5 ∷ 3 ∷ 0 ∷ 2 ∷ 16 ∷ 3 ∷ 3 ∷ 0 ∷ 4 ∷ 3 ∷ 0 ∷ 0 ∷ []) 3 ≡ result true
unfolding rod_computes
past-a-pair = refl

-- ---- a whole traverse

-- by the lines 3 and 4: an answer for each set, in their order; a set that comes again is answered again
answers-in-order : traversed (16 ∷ 7 ∷ 2 ∷ 0 ∷ 4 ∷ 3 ∷ 0 ∷ 3 ∷ 4 ∷ 4 ∷ 0 ∷ 0 ∷ []) (3 ∷ 0 ∷ 4 ∷ 1 ∷ 3 ∷ []) (9 ∷ 9 ∷ 9 ∷ 9 ∷ 9 ∷ [])
    ≡ result (1 ∷ 0 ∷ 1 ∷ 0 ∷ 1 ∷ [])
unfolding rod_computes
answers-in-order = refl

-- slices of unequal length, by a sound listing and by no words at all
one-answer-too-few : traversed (17 ∷ 0 ∷ 0 ∷ 0 ∷ []) (3 ∷ 0 ∷ []) (9 ∷ []) ≡ refused 11 0
unfolding rod_computes
one-answer-too-few = refl

unequal-first : traversed [] (3 ∷ 0 ∷ []) (9 ∷ 9 ∷ 9 ∷ []) ≡ refused 11 0
unfolding rod_computes
unequal-first = refl

-- no sets: none is answered, and the listing is examined all the same
no-sets : answer_count (traversed (17 ∷ 0 ∷ 0 ∷ 0 ∷ []) [] []) ≡ result 0
unfolding rod_computes
no-sets = refl

no-sets-declined : traversed (17 ∷ 0 ∷ 0 ∷ 2 ∷ []) [] [] ≡ refused 10 1
unfolding rod_computes
no-sets-declined = refl

-- a declined listing leaves the lent answers
lent-kept : answers_after (9 ∷ 8 ∷ []) (traversed (17 ∷ 0 ∷ 0 ∷ []) (3 ∷ 0 ∷ []) (9 ∷ 8 ∷ [])) ≡ (9 ∷ 8 ∷ [])
unfolding rod_computes
lent-kept = refl
