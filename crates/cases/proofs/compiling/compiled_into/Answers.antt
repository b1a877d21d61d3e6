-- `cases::compiling::compiled_into`: the records that compiling returns lie in the words.
use native.Mathlib.Omega.{arith}
use Rattle.compiler.proofs.CompiledLaws.{returned-from}
use Rattle.cases.proofs.compiling.compiled_into.Goals as goal

pub returns-in-Ok : goal.returns-in-Ok
returns-in-Ok c = omega (arith, (returned-from c.compile-answer.ensures c.in-Ok.is).room)

pub overflow_mul-end : goal.overflow_mul-end
overflow_mul-end c = omega (arith, (returned-from c.compile-answer.ensures c.in-Ok.is).room)
