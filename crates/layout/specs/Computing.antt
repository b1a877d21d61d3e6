-- No meaning: an example that computes with the definitions of this crate and those below says `unfolding layout_computes`.
use Rattle.arith.specs.Trees.{postfix}
use Rattle.signals.specs.Sets.{is_set}
use Rattle.signals.specs.Computing.{signals_compute}
use Rattle.layout.specs.Records.{words, records, one_if, line_kind, join_kind, exclusion_kind, policy_kind, kind_of, is_line, kinds}
use Rattle.layout.specs.Judgement.{if_any, if_line, next_node, no_record, inside_policy, keeps_layout, so_far_after, judged, length_sound, verdict}
use Rattle.layout.specs.Steps.{policy_step, line_step, join_step, exclusion_step, step_of, step_at}
use Rattle.layout.specs.Nodes.{line_records, node_records, exclusion_records, listing, leading_lines, node_then, nodes, pair_then, excluded}
use Rattle.layout.specs.Writing.{put_record, put_records, line_record, lines_up_to}

unfoldable pub layout_computes : Unit {0}
unfolding signals_compute postfix words records one_if line_kind join_kind exclusion_kind policy_kind kind_of is_line kinds if_any if_line next_node no_record inside_policy keeps_layout so_far_after judged length_sound verdict line_records node_records exclusion_records listing leading_lines node_then nodes pair_then excluded put_record put_records line_record lines_up_to
layout_computes = tt

-- likewise for one step of the judgement
unfoldable pub steps_compute : Unit {0}
unfolding is_set inside_policy keeps_layout so_far_after policy_step line_step join_step exclusion_step step_of step_at
steps_compute = tt

-- likewise for a record's kind
unfoldable pub kinds_compute : Unit {0}
unfolding line_kind join_kind exclusion_kind policy_kind one_if kind_of
kinds_compute = tt
