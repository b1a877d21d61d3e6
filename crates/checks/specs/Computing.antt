-- No meaning: an example that computes with the definitions here and below says `unfolding checks_compute`.
use Rattle.rod.specs.Computing.{rod_computes}
use Rattle.arith.specs.Lists.{count_below}
use Rattle.checks.specs.Checks.{permitted, lowest_from, lowest_set, choice_of, choice, judged_end, judged_sets, chosen, differ_at, comparison_of, examined, comparison}

unfoldable pub checks_compute : Unit {0}
unfolding rod_computes count_below permitted lowest_from lowest_set choice_of choice judged_end judged_sets chosen differ_at comparison_of examined comparison
checks_compute = tt
