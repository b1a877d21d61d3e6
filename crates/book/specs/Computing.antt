-- No meaning: an example that computes with the definitions of this crate and those below says `unfolding book_computes`.
use Rattle.text.specs.Computing.{text_computes}
use Rattle.book.specs.Acceptance.{empty_book, no_line, last_policy, in_place, room_for_rule, in_count, within, default_in_range, score_in_range, mentions_below, in_range, excludes, is_new, missing_default, default_of, with_rule, with_policies, with_policy, with_last, with_exclusion, with_condition, book_with, opens_rules, old_zero_after, accept}
use Rattle.book.specs.Books.{accept_form, read_line, read_lines, read, checked, condition_at, asked}

unfoldable pub book_computes : Unit {0}
unfolding text_computes empty_book no_line last_policy in_place room_for_rule in_count within default_in_range score_in_range mentions_below in_range excludes is_new missing_default default_of with_rule with_policies with_policy with_last with_exclusion with_condition book_with opens_rules old_zero_after accept accept_form read_line read_lines read checked condition_at asked
book_computes = tt
