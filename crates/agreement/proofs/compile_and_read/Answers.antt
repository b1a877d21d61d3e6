-- `agreement::compile_and_read`: compiling's refusal passed up, or the rod's answer on the first words.
use mathlib.Core.Path.{refl, ◌∙◌}
use native.Mathlib.Omega.{arith}
use Rattle.std.proofs.lemmas.Result.{err_from_is_err_and}
use Rattle.compiler.proofs.CompiledLaws.{returned-from}
use Rattle.agreement.proofs.Readings.{reading-by, reading-of}
use Rattle.agreement.proofs.compile_and_read.Goals as goal

pub read_compiled-requires : goal.read_compiled-requires
read_compiled-requires c = omega (arith, (returned-from c.in_ok-compiled.ensures refl).room)

pub returns : goal.returns
returns c =
    let ran = c.in_ok-compiled.ensures in
    record {
      result_value = c.read_compiled.ensures ∙ reading-of _ _ _ _ _ ran.returning ran.leaving;
      words_after = ran.leaving;
    }

pub returns-in_err-compiled : goal.returns-in_err-compiled
returns-in_err-compiled c =
    let p = err_from_is_err_and c.from_residual.result c.from_residual.ensures.1 in
    record {
      result_value = rw (p.1, p.2) (reading-by _ _ _ _ _ c.in_err-compiled.ensures.returning);
      words_after = c.in_err-compiled.ensures.leaving;
    }
