-- `checks::lowest_difference`: on no set of the groups before this one the two differ.
use Prim.Native.Nat.{◌*◌}
use mathlib.Core.Option.{none}
use mathlib.Core.Path.{◌≡◌}
use Rattle.groups.specs.Values.{SixteenTables}
use Rattle.checks.specs.Checks.{lowest_from, differ_at}
use Rattle.checks.proofs.lowest_difference.Given as goal

abbrev pub invariant-loop-group : goal.invariant-loop-group
invariant-loop-group l = SixteenTables l.firsts × SixteenTables l.seconds × (lowest_from (1024 * l.group) 0 (differ_at l.one.words.now l.two.words.now) ≡ none)
