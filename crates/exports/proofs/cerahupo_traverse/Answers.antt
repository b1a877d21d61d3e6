-- `exports::cerahupo_traverse`: what a traverse returns, packed, and the answers as it left them.
use mathlib.Core.Path.{ap, ◌∙◌}
use native.Mathlib.Omega.{arith}
use Rattle.exports.specs.Packing.{packed, answers_value}
use Rattle.exports.proofs.Refusals.{in_table}
use Rattle.exports.proofs.ListingRefusals.{traversing}
use Rattle.exports.proofs.cerahupo_traverse.Goals as goal

pub refusal-requires : goal.refusal-requires
refusal-requires c = omega (arith, c.well_formed, in_table (traversing _ _ _) c.in-Err.ensures.returning)

pub returns-in-Ok : goal.returns-in-Ok
unfolding packed answers_value
returns-in-Ok c = record { packing = c.accepted.ensures ∙ ap (packed answers_value) c.in-Ok.ensures.returning; leaving = c.in-Ok.ensures.leaving }

pub returns-in-Err : goal.returns-in-Err
unfolding packed
returns-in-Err c = record { packing = c.refusal.ensures ∙ ap (packed answers_value) c.in-Err.ensures.returning; leaving = c.in-Err.ensures.leaving }
