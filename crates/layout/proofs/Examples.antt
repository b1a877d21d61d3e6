-- Computed examples of the verdict: each way in which a listing can be declined. The words are those of document 01's book, damaged.
-- Then a policy's two lines, written from record 2 on.
use Prim.Native.Nat.{ℕ}
use mathlib.Core.List.{List, [], ◌∷◌, ◌++◌}
use mathlib.Core.Path.{◌≡◌, refl}
use lib.ListN.{take, set, replicate}
use Rattle.answers.specs.Answers.{Answer, result, refused}
use Rattle.layout.specs.Judgement.{verdict}
use Rattle.layout.specs.Writing.{put_records, lines_up_to}
use Rattle.layout.specs.Computing.{layout_computes}

-- the seven records as printed
abbrev printed : List ℕ
printed =
    16 ∷ 7 ∷ 2 ∷ 5
    ∷ 4 ∷ 5 ∷ 0 ∷ 3
    ∷ 4 ∷ 3 ∷ 0 ∷ 4
    ∷ 4 ∷ 6 ∷ 0 ∷ 0
    ∷ 19 ∷ 8 ∷ 6 ∷ 7
    ∷ 4 ∷ 8 ∷ 0 ∷ 0
    ∷ 2 ∷ 0 ∷ 0 ∷ 0 ∷ []

-- the verdict with word i changed
abbrev changed : ℕ → ℕ → Answer (Unit {0})
changed i word = verdict (set printed i word)

sound-as-printed : verdict printed ≡ result tt
unfolding layout_computes
sound-as-printed = refl

-- 9: no words, or not a multiple of four
no_words : verdict [] ≡ refused 9 0
unfolding layout_computes
no_words = refl

odd-words : verdict (take 27 printed) ≡ refused 9 0
unfolding layout_computes
odd-words = refl

-- 10: a policy's mask, lines and next; its number is that of the record
policy-mask : changed 1 65543 ≡ refused 10 1
unfolding layout_computes
policy-mask = refl

policy-lines : changed 2 3 ≡ refused 10 1
unfolding layout_computes
policy-lines = refl

policy-next : changed 3 6 ≡ refused 10 1
unfolding layout_computes
policy-next = refl

-- a line's mask, lines and next
line-mask : changed 9 11 ≡ refused 10 3
unfolding layout_computes
line-mask = refl

line-lines : changed 10 4 ≡ refused 10 3
unfolding layout_computes
line-lines = refl

line-next : changed 15 5 ≡ refused 10 4
unfolding layout_computes
line-next = refl

-- a line that demands nothing, lines that hold another and a line repeated are sound
line-of-nothing : changed 9 0 ≡ result tt
unfolding layout_computes
line-of-nothing = refl

line-around-another : changed 9 7 ≡ result tt
unfolding layout_computes
line-around-another = refl

line-repeated : changed 9 5 ≡ result tt
unfolding layout_computes
line-repeated = refl

-- a join's mask, lines and next
join-mask : changed 25 1 ≡ refused 10 7
unfolding layout_computes
join-mask = refl

join-lines : changed 26 1 ≡ refused 10 7
unfolding layout_computes
join-lines = refl

join-next : changed 27 8 ≡ refused 10 7
unfolding layout_computes
join-next = refl

-- an unknown kind breaks the layout itself; the policy above it counts it as the next node
unknown-kind : changed 16 20 ≡ refused 10 5
unfolding layout_computes
unknown-kind = refl

-- a line that comes first, or after a join, breaks the layout itself, and not the record before it
line_first : verdict (4 ∷ 0 ∷ 0 ∷ 0 ∷ []) ≡ refused 10 1
unfolding layout_computes
line_first = refl

line-after-join : verdict (set printed 27 8 ++ (4 ∷ 0 ∷ 0 ∷ 0 ∷ [])) ≡ refused 10 8
unfolding layout_computes
line-after-join = refl

-- a join without two values
join-too-early : verdict (16 ∷ 1 ∷ 0 ∷ 2 ∷ 2 ∷ 0 ∷ 0 ∷ 0 ∷ []) ≡ refused 10 2
unfolding layout_computes
join-too-early = refl

-- two values left over: the number of the last record, here a line
left_over : verdict (set (take 24 printed) 19 0) ≡ refused 10 6
unfolding layout_computes
left_over = refl

-- sixteen policies and fifteen joins are sound; a seventeenth policy breaks the layout
abbrev policies : ℕ → ℕ → List ℕ
policies n ℕ.zero = []
policies n (ℕ.suc k) = 16 ∷ 1 ∷ 0 ∷ ℕ.suc n ∷ policies (ℕ.suc n) k

abbrev joins : ℕ → ℕ → List ℕ
joins n ℕ.zero = []
joins n (ℕ.suc ℕ.zero) = 2 ∷ 0 ∷ 0 ∷ 0 ∷ []
joins n (ℕ.suc (ℕ.suc k)) = 2 ∷ 0 ∷ 0 ∷ ℕ.suc n ∷ joins (ℕ.suc n) (ℕ.suc k)

sixteen-policies : verdict (policies 1 16 ++ joins 17 15) ≡ result tt
unfolding layout_computes
sixteen-policies = refl

seventeen-policies : verdict (policies 1 17 ++ joins 18 16) ≡ refused 10 17
unfolding layout_computes
seventeen-policies = refl

-- ---- excluded pairs

-- one pair with these words, and a policy after it
abbrev apart : (mask lines next : ℕ) → Answer (Unit {0})
apart mask lines next = verdict (5 ∷ mask ∷ lines ∷ next ∷ 16 ∷ 1 ∷ 0 ∷ 0 ∷ [])

pair-first : apart 3 0 2 ≡ result tt
unfolding layout_computes
pair-first = refl

-- exactly two signals, of 0 to 15
one-signal : apart 1 0 2 ≡ refused 10 1
unfolding layout_computes
one-signal = refl

three-signals : apart 7 0 2 ≡ refused 10 1
unfolding layout_computes
three-signals = refl

signal-sixteen : apart 65537 0 2 ≡ refused 10 1
unfolding layout_computes
signal-sixteen = refl

-- its lines and next
pair-lines : apart 3 2 2 ≡ refused 10 1
unfolding layout_computes
pair-lines = refl

pair-next : apart 3 0 3 ≡ refused 10 1
unfolding layout_computes
pair-next = refl

-- a pair is the last record
pair-last : verdict (5 ∷ 3 ∷ 0 ∷ 2 ∷ 5 ∷ 6 ∷ 0 ∷ 0 ∷ []) ≡ refused 10 2
unfolding layout_computes
pair-last = refl

-- a repeated pair is sound
pair-twice : verdict (5 ∷ 3 ∷ 0 ∷ 2 ∷ 5 ∷ 3 ∷ 0 ∷ 3 ∷ 16 ∷ 1 ∷ 0 ∷ 0 ∷ []) ≡ result tt
unfolding layout_computes
pair-twice = refl

-- after a policy, whose next is right, the pair breaks the layout itself; so does a line after a pair
pair-after-policy : verdict (16 ∷ 1 ∷ 0 ∷ 2 ∷ 5 ∷ 3 ∷ 0 ∷ 3 ∷ 16 ∷ 1 ∷ 0 ∷ 0 ∷ []) ≡ refused 10 2
unfolding layout_computes
pair-after-policy = refl

line-after-pair : verdict (5 ∷ 3 ∷ 0 ∷ 2 ∷ 4 ∷ 0 ∷ 0 ∷ 0 ∷ []) ≡ refused 10 2
unfolding layout_computes
line-after-pair = refl

-- sixteen pairs are sound; a seventeenth breaks the layout
abbrev pairs : ℕ → ℕ → List ℕ
pairs n ℕ.zero = 16 ∷ 1 ∷ 0 ∷ 0 ∷ []
pairs n (ℕ.suc k) = 5 ∷ 3 ∷ 0 ∷ ℕ.suc n ∷ pairs (ℕ.suc n) k

sixteen-pairs : verdict (pairs 1 16) ≡ result tt
unfolding layout_computes
sixteen-pairs = refl

seventeen-pairs : verdict (pairs 1 17) ≡ refused 10 17
unfolding layout_computes
seventeen-pairs = refl

-- the words before them and after them stay
lines-written : put_records (replicate 14 9) 2 (lines_up_to 3 2 (5 ∷ 6 ∷ [])) ≡ 9 ∷ 9 ∷ 9 ∷ 9 ∷ 4 ∷ 5 ∷ 0 ∷ 3 ∷ 4 ∷ 6 ∷ 0 ∷ 0 ∷ 9 ∷ 9 ∷ []
unfolding layout_computes
lines-written = refl
