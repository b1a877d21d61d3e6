-- `compiler::exclusions::put_exclusions`: what is written before exclusion i leads to the records of all of them.
use Rattle.compiler.proofs.PairLaws.{PairsTo}
use Rattle.compiler.proofs.exclusions.put_exclusions.Given as goal

abbrev pub invariant-loop-i : goal.invariant-loop-i
invariant-loop-i l = PairsTo l.exclusions l.i l.initial.words l.words
