-- `checks::apart_word`: bit by bit.
use native.Mathlib.Omega.{arith}
use Rattle.checks.proofs.Answers.{apart-bits}
use Rattle.checks.proofs.apart_word.Goals as goal

pub returns : goal.returns
returns c = apart-bits _ _ _ _ (omega arith) (omega arith)
