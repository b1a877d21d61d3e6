-- `checks::Listing::group_barred`: the pairs are put into an empty table, and spread.
use native.Mathlib.Omega.{arith}
use Rattle.checks.proofs.Pairs.{barred-group, barred-reached}
use Rattle.groups.proofs.Pairs.{pair-masks}
use lib.ListN.{replicate}
use Rattle.groups.proofs.SpreadLaws.{none_inside, reached-none}
use Rattle.checks.proofs.Listing.group_barred.Goals as goal

pub returns-then-self-eq0 : goal.returns-then-self-eq0
returns-then-self-eq0 c =
    let l = c.args.self in barred-group _ l.pairs _ (replicate 16 0) l.sound (none_inside _ 0 _ _ (omega (arith, c.if-self-eq0.true)))

pub gather-requires : goal.gather-requires
gather-requires c = let l = c.args.self in record { within = c.requires; masks = pair-masks _ _ l.sound }

pub returns : goal.returns
returns c = barred-reached _ _ _ _ c.args.self.sound c.requires (c.spread.ensures _ _ (reached-none _ _ _ _ _ c.gather.ensures))
