-- `groups::gather_rest`: the masks of the records before the next are in the table.
use native.Mathlib.Omega.{arith}
use Rattle.groups.proofs.GatheredLaws.{mask-set, gathered-more, gathered-all}
use Rattle.groups.proofs.gather_rest.Goals as goal

pub add_mask-requires : goal.add_mask-requires
add_mask-requires c = record { set = mask-set c.loop-i.invariant.more (omega arith); within = c.requires.within }

pub loop-i-preserved : goal.loop-i-preserved
loop-i-preserved c = gathered-more c.loop-i.invariant (omega arith) _ c.add_mask.ensures

pub returns : goal.returns
returns c = gathered-all c.loop-i.invariant (omega arith)
