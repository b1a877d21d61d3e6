-- `exports::cerahupo_score`: the score, its hundredths packed and its remainder in the lent number.
use mathlib.Core.Path.{ap, ◌∙◌}
use native.Mathlib.Omega.{arith}
use lib.IntN.{◌+ℤ◌}
use mir.Syntax.{w64}
use mir.Val.{SFits}
use Rattle.std.proofs.Common.{rules}
use Rattle.std.proofs.lemmas.Int.{ints, to_z-of_z}
use Rattle.exports.specs.Packing.{below_zero, packed, score_value, remainder_after}
use Rattle.exports.proofs.Refusals.{in_table}
use Rattle.exports.proofs.BookRefusals.{scoring}
use Rattle.exports.proofs.Results.{hundredths-bounded}
use Rattle.exports.proofs.cerahupo_score.Goals as goal

pub overflow_add-exact : goal.overflow_add-exact
overflow_add-exact c = omega (arith, ints, hundredths-bounded _ _ _ _ c.in-Ok.ensures)

pub overflow_cast-exact : goal.overflow_cast-exact
overflow_cast-exact c = omega (arith, ints, hundredths-bounded _ _ _ _ c.in-Ok.ensures)

pub accepted-requires : goal.accepted-requires
accepted-requires c = omega (arith, ints, hundredths-bounded _ _ _ _ c.in-Ok.ensures)

pub refusal-requires : goal.refusal-requires
refusal-requires c = omega (arith, in_table (scoring _ _ _) c.in-Err.ensures)

pub returns-in-Ok : goal.returns-in-Ok
unfolding packed score_value remainder_after
returns-in-Ok c =
    let small : SFits w64 c.in-Ok.exact.hundredths = search rules in
    let sum_small : SFits w64 (c.in-Ok.exact.hundredths +ℤ below_zero) = omega (arith, ints, hundredths-bounded _ _ _ _ c.in-Ok.ensures) in
    let packing = simp to_z-of_z at c.accepted.ensures in
    record { packing = packing ∙ ap (packed score_value) c.in-Ok.ensures; leaving = ap (remainder_after _) c.in-Ok.ensures }

pub returns-in-Err : goal.returns-in-Err
unfolding packed remainder_after
returns-in-Err c = record { packing = c.refusal.ensures ∙ ap (packed score_value) c.in-Err.ensures; leaving = ap (remainder_after _) c.in-Err.ensures }
