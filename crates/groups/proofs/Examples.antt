-- Computed examples: a set without a signal, and masks that reach sets of a group.
use mathlib.Core.Bool.{true, false}
use mathlib.Core.Path.{◌≡◌, refl}
use Rattle.signals.specs.Computing.{signals_compute}
use Rattle.blocks.specs.Blocks.{without}
use Rattle.groups.specs.Groups.{reaches, mask_reaches}

-- 13 has signals 0, 2 and 3
without-one : without 2 13 ≡ 9
unfolding without
without-one = refl

without_other : without 1 13 ≡ 13
unfolding without
without_other = refl

-- below signal 3 only the three lowest may be more: 5 reaches 7, and 13 only once signal 3 is spread too
reaches-below : reaches 3 5 7 ≡ true
unfolding reaches signals_compute
reaches-below = refl

reaches-not-yet : reaches 3 5 13 ≡ false
unfolding reaches signals_compute
reaches-not-yet = refl

reaches_then : reaches 4 5 13 ≡ true
unfolding reaches signals_compute
reaches_then = refl

-- mask 1,025 has signals 0 and 10: in the groups that have signal 10, here 1 and 3, it is put in at set 1
mask-own-group : mask_reaches 0 1 1 1025 ≡ true
unfolding mask_reaches reaches signals_compute
mask-own-group = refl

mask-larger-group : mask_reaches 0 3 1 1025 ≡ true
unfolding mask_reaches reaches signals_compute
mask-larger-group = refl

mask-other-group : mask_reaches 10 2 1 1025 ≡ false
unfolding mask_reaches reaches signals_compute
mask-other-group = refl
