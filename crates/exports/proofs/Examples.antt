-- Computed examples of packed answers.
use mathlib.Core.Path.{◌≡◌, refl}
use lib.IntN.{pos, negsuc}
use Rattle.answers.specs.Answers.{result, refused}
use Rattle.layout.specs.Records.{one_if}
use Rattle.checks.specs.Checks.{always, both, differ, declined, first, second}
use Rattle.exports.specs.Packing.{packed, counts_value, score_value, remainder_after, itself, answers_value, choice_value, chosen_value, packed_comparison}
use Rattle.exports.specs.Unpacking.{code_in, value_in, of_first, number_of, unpacked, score_in, choice_in, chosen_in, which_of, comparison_in}

-- two policies and one condition
counted : packed counts_value (result (record { policies = 2; conditions = 1 })) ≡ 65600
unfolding packed counts_value
counted = refl

-- a signal repeated in line 3
repeated : packed one_if (refused 6 3) ≡ 102
unfolding packed
repeated = refl

-- a traverse of three sets, and one whose slices are of unequal length
three-answers : packed answers_value (result 3) ≡ 96
unfolding packed answers_value
three-answers = refl

unequal-told : unpacked itself (packed answers_value (refused 11 0)) ≡ refused 11 0
unfolding packed unpacked code_in value_in of_first number_of
unequal-told = refl

-- document 01's `both 3 0`: four sets were judged, so 3 stands from bit 48 on
both_told : packed chosen_value (result (record { choice = both 3 0; judged = 4 })) ≡ 844424930328640
unfolding packed choice_value chosen_value
both_told = refl

-- all sets were judged: the highest sixteen bits are ones
always-told : packed chosen_value (result (record { choice = always; judged = 65536 })) ≡ 18446462598732840960
unfolding packed choice_value chosen_value
always-told = refl

-- the highest sets that there are, and all judged: no bit is lost beside another
highest-told : unpacked chosen_in (packed chosen_value (result (record { choice = both 65535 65534; judged = 65536 })))
    ≡ result (record { choice = both 65535 65534; judged = 65536 })
unfolding packed choice_value chosen_value unpacked code_in value_in choice_in chosen_in
highest-told = refl

-- on set 5 the first says yes
differing : packed_comparison (differ 5 first) ≡ 327776
unfolding packed_comparison
differing = refl

-- record 3 of the first listing breaks the layout, and record 3 of the second, whose code is 26
first-declined : packed_comparison (declined first 10 3) ≡ 106
unfolding packed_comparison
first-declined = refl

second-declined : packed_comparison (declined second 10 3) ≡ 122
unfolding packed_comparison
second-declined = refl

-- the second listing has no words: code 25
second_empty : packed_comparison (declined second 9 0) ≡ 25
unfolding packed_comparison
second_empty = refl

-- the highest number that a refusal may have is told as it is, and no value is lost beside it
highest-refusal : unpacked itself (packed itself (refused 20 7)) ≡ refused 20 7
unfolding packed unpacked code_in value_in of_first number_of
highest-refusal = refl

told-second : comparison_in (packed_comparison (declined second 9 0)) ≡ declined second 9 0
unfolding packed_comparison comparison_in code_in value_in of_first number_of which_of
told-second = refl

-- a score of 20 hundredths: they are counted from -10,000
scored : packed score_value (result (record { hundredths = pos 20; remainder = 0 })) ≡ 320640
unfolding packed score_value
scored = refl

-- the lowest score, and the highest with the largest remainder that there is room for
lowest-score : packed score_value (result (record { hundredths = negsuc 9999; remainder = 0 })) ≡ 0
unfolding packed score_value
lowest-score = refl

told-score : unpacked (score_in 99999999999999) (packed score_value (result (record { hundredths = pos 160000; remainder = 99999999999999 })))
    ≡ result (record { hundredths = pos 160000; remainder = 99999999999999 })
unfolding packed score_value unpacked code_in value_in score_in
told-score = refl

-- a refusal leaves the lent number
lent-kept : remainder_after 77 (refused 7 0) ≡ 77
unfolding remainder_after
lent-kept = refl
