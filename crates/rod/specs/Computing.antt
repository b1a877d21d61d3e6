-- No meaning: an example that computes with the definitions of this crate and those below says `unfolding rod_computes`.
use Rattle.arith.specs.Trees.{joined_last, run}
use Rattle.layout.specs.Computing.{layout_computes}
use Rattle.rod.specs.Reading.{some_line, policy_value, joined, says, rod_answer}
use Rattle.rod.specs.Traversing.{answers_to, traversed, answer_count, answers_after}

unfoldable pub rod_computes : Unit {0}
unfolding layout_computes joined_last run some_line policy_value joined says rod_answer answers_to traversed answer_count answers_after
rod_computes = tt
