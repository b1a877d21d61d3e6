-- `groups::Policy::word`: bit by bit.
use native.Mathlib.Omega.{arith}
use Rattle.groups.proofs.Words.{policy-bits}
use Rattle.groups.proofs.Policy.word.Goals as goal

pub returns : goal.returns
returns c = policy-bits _ _ _ _ (omega arith)
