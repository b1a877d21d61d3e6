-- `checks::lowest_in`: the lowest bit is the lowest set of the block that passes the test.
use native.Mathlib.Omega.{arith}
use Rattle.checks.proofs.Search.{block_here}
use Rattle.checks.proofs.lowest_in.Goals as goal

pub returns : goal.returns
returns c test w = block_here test _ _ w c.requires.word_nonzero (omega arith)
