-- `layout::judging::after_lines`: up to here there are but lines of the policy.
use Rattle.layout.specs.Steps.{AfterLines}
use Rattle.layout.proofs.judging.after_lines.Given as goal

abbrev pub invariant-loop-i : goal.invariant-loop-i
invariant-loop-i l = AfterLines l.words l.node l.i
