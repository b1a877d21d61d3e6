-- Computed examples: each limit of document 01, and one beyond.
use mathlib.Core.Bool.{true, false}
use mathlib.Core.Option.{none, some}
use mathlib.Core.Path.{◌≡◌, refl}
use lib.IntN.{pos, negsuc}
use Rattle.limits.specs.Limits.{book_fits, line_fits, room_for_policy, room_for_condition, room_for_rule, room_for_exclusion, signal_in_range, exclusion_in_range, within, default_in_range, score_in_range, threshold_in_range}
use Rattle.peal.specs.declared.Operator.TheVariants.{Min, Max, Sum, Mul}

book-full : book_fits 8192 ≡ true
book-full = refl

book-over : book_fits 8193 ≡ false
book-over = refl

line-full : line_fits 128 ≡ true
line-full = refl

line-over : line_fits 129 ≡ false
line-over = refl

sixteenth-policy : room_for_policy 15 ≡ true
sixteenth-policy = refl

seventeenth-policy : room_for_policy 16 ≡ false
seventeenth-policy = refl

eighth-condition : room_for_condition 7 ≡ true
eighth-condition = refl

ninth-condition : room_for_condition 8 ≡ false
ninth-condition = refl

eighth-mul-rule : room_for_rule Mul 7 ≡ true
unfolding room_for_rule
eighth-mul-rule = refl

ninth-mul-rule : room_for_rule Mul 8 ≡ false
unfolding room_for_rule
ninth-mul-rule = refl

ninth-sum-rule : room_for_rule Sum 8 ≡ true
unfolding room_for_rule
ninth-sum-rule = refl

sixteenth-exclusion : room_for_exclusion 15 ≡ true
sixteenth-exclusion = refl

seventeenth-exclusion : room_for_exclusion 16 ≡ false
seventeenth-exclusion = refl

last-signal : signal_in_range 15 ≡ true
last-signal = refl

signal-sixteen : signal_in_range 16 ≡ false
signal-sixteen = refl

outermost-signals : exclusion_in_range 0 15 ≡ true
outermost-signals = refl

first-sixteen : exclusion_in_range 16 0 ≡ false
first-sixteen = refl

second-sixteen : exclusion_in_range 0 16 ≡ false
second-sixteen = refl

signal-with-itself : exclusion_in_range 3 3 ≡ false
signal-with-itself = refl

no_default : default_in_range none ≡ true
unfolding default_in_range
no_default = refl

default-low : default_in_range (some (negsuc 9999)) ≡ true
unfolding default_in_range within
default-low = refl

default_under : default_in_range (some (negsuc 10000)) ≡ false
unfolding default_in_range within
default_under = refl

default-high : default_in_range (some (pos 10000)) ≡ true
unfolding default_in_range within
default-high = refl

default-over : default_in_range (some (pos 10001)) ≡ false
unfolding default_in_range within
default-over = refl

sum_low : score_in_range Sum (pos 0) ≡ true
unfolding score_in_range within
sum_low = refl

sum-under : score_in_range Sum (negsuc 0) ≡ false
unfolding score_in_range within
sum-under = refl

sum-high : score_in_range Sum (pos 10000) ≡ true
unfolding score_in_range within
sum-high = refl

sum_over : score_in_range Sum (pos 10001) ≡ false
unfolding score_in_range within
sum_over = refl

mul_low : score_in_range Mul (pos 0) ≡ true
unfolding score_in_range within
mul_low = refl

mul-under : score_in_range Mul (negsuc 0) ≡ false
unfolding score_in_range within
mul-under = refl

mul-high : score_in_range Mul (pos 100) ≡ true
unfolding score_in_range within
mul-high = refl

mul-over : score_in_range Mul (pos 101) ≡ false
unfolding score_in_range within
mul-over = refl

min-low : score_in_range Min (negsuc 9999) ≡ true
unfolding score_in_range within
min-low = refl

min-under : score_in_range Min (negsuc 10000) ≡ false
unfolding score_in_range within
min-under = refl

min-high : score_in_range Min (pos 10000) ≡ true
unfolding score_in_range within
min-high = refl

min-over : score_in_range Min (pos 10001) ≡ false
unfolding score_in_range within
min-over = refl

max-low : score_in_range Max (negsuc 9999) ≡ true
unfolding score_in_range within
max-low = refl

max-under : score_in_range Max (negsuc 10000) ≡ false
unfolding score_in_range within
max-under = refl

max-high : score_in_range Max (pos 10000) ≡ true
unfolding score_in_range within
max-high = refl

max-over : score_in_range Max (pos 10001) ≡ false
unfolding score_in_range within
max-over = refl

threshold-low : threshold_in_range (negsuc 199999) ≡ true
unfolding within
threshold-low = refl

threshold-under : threshold_in_range (negsuc 200000) ≡ false
unfolding within
threshold-under = refl

threshold-high : threshold_in_range (pos 200000) ≡ true
unfolding within
threshold-high = refl

threshold-over : threshold_in_range (pos 200001) ≡ false
unfolding within
threshold-over = refl
