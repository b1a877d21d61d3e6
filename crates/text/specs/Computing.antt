-- No meaning: an example that computes with the definitions of this crate and those below says `unfolding text_computes`.
use Rattle.peal.specs.Computing.{peal_computes}
use Rattle.text.specs.Text.{longer, parted, as_lines, text_lines, fields, is, begins, after}
use Rattle.text.specs.Numbers.{is_digit, with_digits, no_leading_zero, natural, negated, number}
use Rattle.text.specs.Expressions.{mention_word, min_max_word, digit_count, mention, leading_join, leading_expression, nothing_after, expression}
use Rattle.text.specs.Forms.{operator_word, operator, sense_word, sense, form_of, form}

unfoldable pub text_computes : Unit {0}
unfolding peal_computes longer parted as_lines text_lines fields is begins after is_digit with_digits no_leading_zero natural negated number mention_word min_max_word digit_count mention leading_join leading_expression nothing_after expression operator_word operator sense_word sense form_of form
text_computes = tt
