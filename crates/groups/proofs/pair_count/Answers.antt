-- `groups::pair_count`: the pairs above the index and those from it on are all pairs.
use mathlib.Core.Path.{ap}
use native.Mathlib.Omega.{arith}
use lib.ListN.{length}
use Rattle.layout.specs.Steps.{records_from}
use Rattle.groups.proofs.Pairs.{pair-here, no-pair-here, no-pair-left}
use Rattle.groups.proofs.pair_count.Goals as goal

pub loop-i-init : goal.loop-i-init
unfolding records_from
loop-i-init c = omega arith

pub returns-then-words-i-ne-EXCLUSION : goal.returns-then-words-i-ne-EXCLUSION
returns-then-words-i-ne-EXCLUSION c =
    let at = c.loop-i in
    omega (arith, at.invariant, ap length (no-pair-here c.args.words.now at.i (omega arith) (omega arith)))

pub loop-i-preserved : goal.loop-i-preserved
loop-i-preserved c =
    let at = c.loop-i in
    omega (arith, at.invariant, ap length (pair-here c.args.words.now at.i (omega arith) (omega arith)))

pub returns : goal.returns
returns c = let at = c.loop-i in omega (arith, at.invariant, ap length (no-pair-left c.args.words.now at.i (omega arith)))
