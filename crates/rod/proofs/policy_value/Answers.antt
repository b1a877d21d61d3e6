-- `rod::policy_value`: each return by the tests that led there.
use native.Mathlib.Omega.{arith}
use Rattle.rod.proofs.Lines.{value-quiet, value-turned, value-plain}
use Rattle.rod.proofs.policy_value.Goals as goal

pub returns-then-turned : goal.returns-then-turned
returns-then-turned c = value-turned _ _ (omega arith) c.if-mask-set-ne0.true c.if-turned.true _ c.some_line-found.ensures

pub returns-else-turned : goal.returns-else-turned
returns-else-turned c = value-plain _ _ (omega arith) c.if-mask-set-ne0.true c.if-turned.false _ c.some_line-found.ensures

pub returns-else-mask-set-ne0 : goal.returns-else-mask-set-ne0
returns-else-mask-set-ne0 c = value-quiet _ _ (omega arith) c.if-mask-set-ne0.false
