-- `groups::gather_fours`: the masks of the records before the next four are in the table.
use Prim.Native.Nat.{◌+◌, ◌*◌}
use Rattle.groups.proofs.GatheredLaws.{Gathering}
use Rattle.groups.proofs.gather_fours.Given as goal

abbrev pub invariant-loop-turn : goal.invariant-loop-turn
invariant-loop-turn l = Gathering l.words l.from l.end l.group l.initial.table l.table (l.from + l.turn * 4)
