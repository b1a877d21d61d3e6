-- `checks::lowest_difference`: on no set of the groups before this one the two differ.
use mathlib.Core.List.{[]}
use lib.ListN.{get_or}
use mathlib.Core.Path.{sym}
use native.Mathlib.Omega.{arith}
use Rattle.checks.proofs.Answers.{differ-group}
use Rattle.groups.proofs.Words.{no-values}
use Rattle.checks.proofs.Search.{none_yet, next-group, in_group, none_at_all}
use Rattle.checks.proofs.lowest_difference.Goals as goal

pub loop-group-init : goal.loop-group-init
loop-group-init c = (no-values, no-values, none_yet _ _)

pub returns-in-Some : goal.returns-in-Some
returns-in-Some c =
    let apart = differ-group _ _ _ c.group_barred-barred.result c.group_barred-also.result (get_or c.reading.new.values 0 []) (get_or c.reading-in-loop-group.new.values 0 [])
    c.group_barred-barred.ensures c.group_barred-also.ensures c.reading.ensures.told c.reading-in-loop-group.ensures.told in
    in_group _ _ c.loop-group.invariant.2 (omega arith) _ (sym (c.in-Some.ensures _ apart))

pub loop-group-preserved : goal.loop-group-preserved
loop-group-preserved c =
    let apart = differ-group _ _ _ c.group_barred-barred.result c.group_barred-also.result (get_or c.reading.new.values 0 []) (get_or c.reading-in-loop-group.new.values 0 [])
    c.group_barred-barred.ensures c.group_barred-also.ensures c.reading.ensures.told c.reading-in-loop-group.ensures.told in (
      c.reading.ensures.room,
      c.reading-in-loop-group.ensures.room,
      next-group _ _ c.loop-group.invariant.2 (sym (c.in_default.ensures _ apart)),
    )

pub returns : goal.returns
returns c = none_at_all _ _ c.loop-group.invariant.2 (omega arith)
