-- `limits::room_for_rule`: only mul has a limit of its own.
use Rattle.std.proofs.Common.{arith}
use Rattle.limits.specs.Limits.{room_for_rule}
use Rattle.limits.proofs.room_for_rule.Goals as goal

pub returns-in-Mul : goal.returns-in-Mul
unfolding room_for_rule
returns-in-Mul c = grind arith

pub returns-in_default : goal.returns-in_default
unfolding room_for_rule
returns-in_default c = grind arith
