-- `rod::some_line`: each line that does not lie inside the set carries the walk on by one place.
use Prim.Native.Nat.{ℕ, ◌+◌, ◌-◌, ◌≤◌}
use mathlib.Core.Bool.{Bool, false}
use mathlib.Core.List.{List}
use mathlib.Core.Path.{◌≡◌, refl}
use native.Mathlib.Omega.{arith}
use Rattle.signals.specs.Sets.{inside}
use Rattle.rod.specs.Values.{mask_at}
use Rattle.rod.proofs.Lines.{Walk, walk_here, walk-found, walk-on, walk_end}
use Rattle.rod.proofs.some_line.Goals as goal

-- ---- four lines

-- one line, two, and three of a turn are passed
module _ {ws : List ℕ} {from end set i : ℕ} (w : Walk ws from end set i) (room : 4 ≤ end - i) where
  module _ (t : Bool) (told : t ≡ inside (mask_at ws i) set) (no : t ≡ false) where
    passed-1 : Walk ws from end set (i + 1)
    passed-1 = walk-on w (omega (arith, room)) t told no _ refl

    module _ (t₂ : Bool) (told₂ : t₂ ≡ inside (mask_at ws (i + 1)) set) (no₂ : t₂ ≡ false) where
      passed-2 : Walk ws from end set (i + 2)
      passed-2 = walk-on passed-1 (omega (arith, room)) t₂ told₂ no₂ _ (omega arith)

      module _ (t₃ : Bool) (told₃ : t₃ ≡ inside (mask_at ws (i + 2)) set) (no₃ : t₃ ≡ false) where
        passed-3 : Walk ws from end set (i + 3)
        passed-3 = walk-on passed-2 (omega (arith, room)) t₃ told₃ no₃ _ (omega arith)

pub is_inside-requires : goal.is_inside-requires
is_inside-requires c =
    let h = walk_here c.loop-i.invariant (omega (arith, c.loop-i-test.true)) in
    record { i_in_bounds = h.0; i_bound = h.1 }

pub returns-then-is_inside : goal.returns-then-is_inside
returns-then-is_inside c = walk-found c.loop-i.invariant (omega (arith, c.loop-i-test.true)) _ c.is_inside.ensures c.if-is_inside.true

pub is_inside-requires-in-loop-i : goal.is_inside-requires-in-loop-i
is_inside-requires-in-loop-i c =
    let p = passed-1 c.loop-i.invariant c.loop-i-test.true _ c.is_inside.ensures c.if-is_inside.false in
    let h = walk_here p (omega (arith, c.loop-i-test.true)) in
    record { i_in_bounds = h.0; i_bound = h.1 }

pub returns-then-is_inside-2 : goal.returns-then-is_inside-2
returns-then-is_inside-2 c =
    let p = passed-1 c.loop-i.invariant c.loop-i-test.true _ c.is_inside.ensures c.if-is_inside.false in
    walk-found p (omega (arith, c.loop-i-test.true)) _ c.is_inside-in-loop-i.ensures c.if-is_inside-2.true

pub is_inside-requires-in-loop-i-2 : goal.is_inside-requires-in-loop-i-2
is_inside-requires-in-loop-i-2 c =
    let p = passed-2 c.loop-i.invariant c.loop-i-test.true
    _ c.is_inside.ensures c.if-is_inside.false _ c.is_inside-in-loop-i.ensures c.if-is_inside-2.false in
    let h = walk_here p (omega (arith, c.loop-i-test.true)) in
    record { i_in_bounds = h.0; i_bound = h.1 }

pub returns-then-is_inside-3 : goal.returns-then-is_inside-3
returns-then-is_inside-3 c =
    let p = passed-2 c.loop-i.invariant c.loop-i-test.true
    _ c.is_inside.ensures c.if-is_inside.false _ c.is_inside-in-loop-i.ensures c.if-is_inside-2.false in
    walk-found p (omega (arith, c.loop-i-test.true)) _ c.is_inside-in-loop-i-2.ensures c.if-is_inside-3.true

pub is_inside-requires-in-loop-i-3 : goal.is_inside-requires-in-loop-i-3
is_inside-requires-in-loop-i-3 c =
    let p = passed-3 c.loop-i.invariant c.loop-i-test.true
    _ c.is_inside.ensures c.if-is_inside.false _ c.is_inside-in-loop-i.ensures c.if-is_inside-2.false
    _ c.is_inside-in-loop-i-2.ensures c.if-is_inside-3.false in
    let h = walk_here p (omega (arith, c.loop-i-test.true)) in
    record { i_in_bounds = h.0; i_bound = h.1 }

pub returns-then-is_inside-4 : goal.returns-then-is_inside-4
returns-then-is_inside-4 c =
    let p = passed-3 c.loop-i.invariant c.loop-i-test.true
    _ c.is_inside.ensures c.if-is_inside.false _ c.is_inside-in-loop-i.ensures c.if-is_inside-2.false
    _ c.is_inside-in-loop-i-2.ensures c.if-is_inside-3.false in
    walk-found p (omega (arith, c.loop-i-test.true)) _ c.is_inside-in-loop-i-3.ensures c.if-is_inside-4.true

pub loop-i-preserved : goal.loop-i-preserved
loop-i-preserved c =
    let p = passed-3 c.loop-i.invariant c.loop-i-test.true
    _ c.is_inside.ensures c.if-is_inside.false _ c.is_inside-in-loop-i.ensures c.if-is_inside-2.false
    _ c.is_inside-in-loop-i-2.ensures c.if-is_inside-3.false in
    walk-on p (omega (arith, c.loop-i-test.true)) _ c.is_inside-in-loop-i-3.ensures c.if-is_inside-4.false _ (omega arith)

-- ---- the rest

pub is_inside-requires-in-loop-rest : goal.is_inside-requires-in-loop-rest
is_inside-requires-in-loop-rest c = let h = walk_here c.loop-rest.invariant c.loop-rest-test.true in record { i_in_bounds = h.0; i_bound = h.1 }

pub returns-then-is_inside-5 : goal.returns-then-is_inside-5
returns-then-is_inside-5 c = walk-found c.loop-rest.invariant c.loop-rest-test.true _ c.is_inside-in-loop-rest.ensures c.if-is_inside-5.true

pub loop-rest-preserved : goal.loop-rest-preserved
loop-rest-preserved c = walk-on c.loop-rest.invariant c.loop-rest-test.true _ c.is_inside-in-loop-rest.ensures c.if-is_inside-5.false _ refl

pub returns : goal.returns
returns c = walk_end c.loop-rest.invariant c.loop-rest-test.false
