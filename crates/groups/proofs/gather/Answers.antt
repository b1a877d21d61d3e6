-- `groups::gather`: four at a turn, and then the rest.
use native.Mathlib.Omega.{arith}
use Rattle.groups.proofs.GatheredLaws.{masks-front, masks-rest, gathered-both}
use Rattle.groups.proofs.gather.Goals as goal

pub gather_fours-requires-clause-can_gather : goal.gather_fours-requires-clause-can_gather
gather_fours-requires-clause-can_gather c = let p = c.requires in record { within = p.within; masks = masks-front _ _ _ _ (omega arith) (omega arith) p.masks }

pub gather_rest-requires : goal.gather_rest-requires
gather_rest-requires c = let p = c.requires in record { within = p.within; masks = masks-rest _ _ _ _ (omega arith) (omega arith) p.masks }

pub returns : goal.returns
returns c = gathered-both _ _ _ _ (omega arith) (omega arith) _ _ _ _ c.gather_fours.ensures c.gather_rest.ensures
