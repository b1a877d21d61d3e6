-- `exports::cerahupo_check`: what the check tells, packed.
use mathlib.Core.Path.{ap, ◌∙◌}
use native.Mathlib.Omega.{arith}
use Rattle.exports.specs.Packing.{packed, counts_value}
use Rattle.exports.proofs.Refusals.{in_table}
use Rattle.exports.proofs.BookRefusals.{checking}
use Rattle.exports.proofs.Results.{counts-small}
use Rattle.exports.proofs.cerahupo_check.Goals as goal

pub overflow_mul-counts : goal.overflow_mul-counts
overflow_mul-counts c = omega (arith, counts-small _ _ c.in-Ok.ensures)

pub overflow_add-counts : goal.overflow_add-counts
overflow_add-counts c = omega (arith, counts-small _ _ c.in-Ok.ensures)

pub accepted-requires : goal.accepted-requires
accepted-requires c = omega (arith, counts-small _ _ c.in-Ok.ensures)

pub refusal-requires : goal.refusal-requires
refusal-requires c = omega (arith, in_table (checking _) c.in-Err.ensures)

pub returns-in-Ok : goal.returns-in-Ok
unfolding packed counts_value
returns-in-Ok c = c.accepted.ensures ∙ ap (packed counts_value) c.in-Ok.ensures

pub returns-in-Err : goal.returns-in-Err
unfolding packed
returns-in-Err c = c.refusal.ensures ∙ ap (packed counts_value) c.in-Err.ensures
