-- `checks::sound_choice`: no set of the groups before gives the other answer, and those without a pair are counted.
use Prim.Native.Nat.{◌*◌, ◌<◌}
use mathlib.Core.Bool.{not}
use mathlib.Core.Option.{none}
use mathlib.Core.Path.{◌≡◌}
use Rattle.groups.specs.Values.{SixteenTables}
use Rattle.arith.specs.Lists.{count_below}
use Rattle.rod.specs.Reading.{says}
use Rattle.checks.specs.Checks.{permitted, gives, lowest_from}
use Rattle.checks.proofs.sound_choice.Given as goal

abbrev pub invariant-loop-group : goal.invariant-loop-group
invariant-loop-group l = SixteenTables l.values × (0 < l.group → l.empty ≡ says l.listing.words.now 0)
    × (lowest_from (1024 * l.group) 0 (gives l.listing.words.now (not (says l.listing.words.now 0))) ≡ none)
    × (l.judged ≡ count_below (1024 * l.group) (permitted l.listing.words.now))
