-- `groups::gather_rest`: the masks of the records before the next are in the table.
use Rattle.groups.proofs.GatheredLaws.{Gathering}
use Rattle.groups.proofs.gather_rest.Given as goal

abbrev pub invariant-loop-i : goal.invariant-loop-i
invariant-loop-i l = Gathering l.words l.from l.end l.group l.initial.table l.table l.i
