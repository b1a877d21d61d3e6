-- `groups::spread`: after each turn the masks reach one signal further.
use mathlib.Core.Path.{◌≡◌}
use native.Mathlib.Numerals.{add-one}
use native.Mathlib.Omega.{arith}
use Rattle.groups.proofs.SpreadLaws.{reached-more}
use Rattle.groups.proofs.spread.Goals as goal

pub loop-signal-init : goal.loop-signal-init
loop-signal-init c masks group r =
    reached-more 5 _ _ _ _
    (reached-more 4 _ _ _ _ (reached-more 3 _ _ _ _ (reached-more 2 _ _ _ _ (reached-more 1 _ _ _ _ (reached-more 0 _ _ _ _ r c.spread_low.ensures)
    c.spread_low-2.ensures) c.spread_low-3.ensures) c.spread_low-4.ensures) c.spread_low-5.ensures) c.spread_low-6.ensures

pub loop-signal-preserved : goal.loop-signal-preserved
loop-signal-preserved c masks group r = rw add-one (reached-more _ _ _ _ _ (c.loop-signal.invariant masks group r) c.spread_high.ensures)

pub returns : goal.returns
returns c masks group r = let last : c.loop-signal.signal ≡ 10 = omega arith in rw last at (c.loop-signal.invariant masks group r)
