-- No meaning: an example that computes with the definitions of this crate and those below says `unfolding peal_computes`.
use Rattle.arith.specs.Trees.{tree_value}
use Rattle.signals.specs.Computing.{signals_compute}
use Rattle.peal.specs.Policies.{mask_of, empty_policy, policy_at}
use Rattle.peal.specs.Score.{scaled, present_rules, total, score_product, scaled_product, of_two, of_all, applied, score_of, policy_score, score, meets, decision}
use Rattle.peal.specs.Ranking.{ranks_above, higher, placed, ranked}
use Rattle.peal.specs.Lines.{sets_inside, smaller_sets, minimal, minimal_sets, has, lines}

unfoldable pub peal_computes : Unit {0}
unfolding signals_compute tree_value mask_of empty_policy policy_at scaled present_rules total score_product scaled_product of_two of_all applied score_of policy_score score meets decision ranks_above higher placed ranked sets_inside smaller_sets minimal minimal_sets has lines
peal_computes = tt
