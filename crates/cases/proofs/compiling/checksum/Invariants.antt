-- `cases::compiling::checksum`: the sum stays below the prime.
use Rattle.std.proofs.Common.{◌<◌}
use Rattle.cases.proofs.compiling.checksum.Given as goal

abbrev pub invariant-loop-word : goal.invariant-loop-word
invariant-loop-word l = l.sum < 1000000007
