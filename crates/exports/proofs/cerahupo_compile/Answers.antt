-- `exports::cerahupo_compile`: what compiling returns, packed, and the words as it left them.
use mathlib.Core.Path.{refl, ap, ◌∙◌}
use native.Mathlib.Omega.{arith}
use Rattle.compiler.proofs.CompiledLaws.{returned-from}
use Rattle.exports.specs.Packing.{packed, itself}
use Rattle.exports.proofs.Refusals.{in_table}
use Rattle.exports.proofs.BookRefusals.{compiling}
use Rattle.exports.proofs.cerahupo_compile.Goals as goal

pub accepted-requires : goal.accepted-requires
accepted-requires c = omega (arith, c.well_formed, (returned-from c.in-Ok.ensures refl).room)

pub refusal-requires : goal.refusal-requires
refusal-requires c = omega (arith, in_table (compiling _ _ _) c.in-Err.ensures.returning)

pub returns-in-Ok : goal.returns-in-Ok
unfolding packed
returns-in-Ok c = record { packing = c.accepted.ensures ∙ ap (packed itself) c.in-Ok.ensures.returning; leaving = c.in-Ok.ensures.leaving }

pub returns-in-Err : goal.returns-in-Err
unfolding packed
returns-in-Err c = record { packing = c.refusal.ensures ∙ ap (packed itself) c.in-Err.ensures.returning; leaving = c.in-Err.ensures.leaving }
