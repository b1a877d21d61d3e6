-- `layout::judging::after_lines`: up to here there are but lines of the policy.
use native.Mathlib.Omega.{arith}
use Rattle.layout.proofs.Passing.{after_line}
use Rattle.layout.proofs.judging.after_lines.Goals as goal

pub loop-i-preserved : goal.loop-i-preserved
loop-i-preserved c =
    after_line _ _ _ _ _ _ _ c.record_at-r.ensures c.in-Policy.ensures (grind arith) (omega arith) (c.is_sound_line.ensures c.if-not-is_sound_line.false) c.loop-i.invariant
