-- `exports::cerahupo_choice`: the choice check's answer, packed.
use mathlib.Core.Path.{ap, ◌∙◌}
use native.Mathlib.Omega.{arith}
use Rattle.exports.specs.Packing.{packed, chosen_value}
use Rattle.exports.proofs.Refusals.{in_table}
use Rattle.exports.proofs.ListingRefusals.{choosing}
use Rattle.exports.proofs.Results.{chosen-fits}
use Rattle.exports.proofs.cerahupo_choice.Goals as goal

pub overflow_sub-chosen : goal.overflow_sub-chosen
overflow_sub-chosen c = omega (arith, (chosen-fits _ _ c.in-Ok.ensures).some)

pub overflow_mul-chosen : goal.overflow_mul-chosen
overflow_mul-chosen c = omega (arith, (chosen-fits _ _ c.in-Ok.ensures).few)

pub overflow_add-value : goal.overflow_add-value
overflow_add-value c = omega (arith, c.choice_value-value.ensures.end, (chosen-fits _ _ c.in-Ok.ensures).few)

pub accepted-requires : goal.accepted-requires
accepted-requires c = omega (arith, c.choice_value-value.ensures.end, (chosen-fits _ _ c.in-Ok.ensures).few)

pub refusal-requires : goal.refusal-requires
refusal-requires c = omega (arith, c.well_formed, in_table (choosing _) c.in-Err.ensures)

pub returns-in-Ok : goal.returns-in-Ok
unfolding packed chosen_value
returns-in-Ok c =
    let told = rw c.choice_value-value.ensures.value at c.accepted.ensures in
    told ∙ ap (packed chosen_value) c.in-Ok.ensures

pub returns-in-Err : goal.returns-in-Err
unfolding packed
returns-in-Err c = c.refusal.ensures ∙ ap (packed chosen_value) c.in-Err.ensures
