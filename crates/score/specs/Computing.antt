-- No meaning: an example that computes with the definitions of this crate and those below says `unfolding score_computes`.
use Rattle.book.specs.Computing.{book_computes}
use Rattle.score.specs.Decisions.{scored_answer}
use Rattle.score.specs.Shown.{shown, shown_answer, equal, at_most, of_pairs, exceeds, meets_shown}

unfoldable pub score_computes : Unit {0}
unfolding book_computes scored_answer shown shown_answer equal at_most of_pairs exceeds meets_shown
score_computes = tt
