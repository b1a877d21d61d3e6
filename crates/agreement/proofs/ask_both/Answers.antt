-- `agreement::ask_both`: compiling's refusal passed up, or what rod and logger say, which is one.
use mathlib.Core.Path.{refl}
use native.Mathlib.Omega.{arith}
use Rattle.std.proofs.lemmas.Result.{err_from_is_err_and}
use Rattle.compiler.proofs.CompiledLaws.{returned-from}
use Rattle.agreement.proofs.BothLaws.{both-refused, both-said, both-held}
use Rattle.agreement.proofs.ask_both.Goals as goal

pub read_compiled-rod-requires : goal.read_compiled-rod-requires
read_compiled-rod-requires c = omega (arith, (returned-from c.in_ok-records.ensures refl).room)

pub returns : goal.returns
returns c =
    let ran = c.in_ok-records.ensures in
    let rod = c.read_compiled-rod.ensures in
    let logger = c.decide-logger.ensures in
    record {
      result_value = both-said _ _ _ _ _ ran.returning _ ran.leaving _ _ rod logger;
      words_after = ran.leaving;
      held = both-held _ _ _ _ _ ran.returning _ ran.leaving _ _ rod logger;
    }

pub returns-in_err-records : goal.returns-in_err-records
returns-in_err-records c =
    let p = err_from_is_err_and c.from_residual.result c.from_residual.ensures.1 in
    let ran = c.in_err-records.ensures in
    record {
      result_value = rw (p.1, p.2) (both-refused _ _ _ _ _ _ ran.returning);
      words_after = ran.leaving;
      held = rw p.1 tt;
    }
