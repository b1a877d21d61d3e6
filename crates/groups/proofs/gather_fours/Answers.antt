-- `groups::gather_fours`: the masks of the records before the next four are in the table.
use Prim.Native.Nat.{ℕ, ◌+◌, ◌-◌, ◌*◌, ◌/◌, ◌%◌, ◌≤◌, ◌<◌}
use mathlib.Core.List.{List}
use mathlib.Core.Path.{◌≡◌, refl}
use native.Mathlib.Omega.{arith}
use lib.ListN.{get_or}
use Rattle.groups.specs.Groups.{IsGroup, MasksAt, SetAndGroup, Added}
use Rattle.groups.proofs.GatheredLaws.{Gathering, mask-small, gathered-at, gathered-all}
use Rattle.groups.proofs.gather_fours.Goals as goal

-- four records are left at this turn
room : (from end turn : ℕ) → turn < (end - from) / 4 → from + turn * 4 + 4 ≤ end
room from end turn h = omega arith

-- the word so many words further is a mask, and a signal set
mask-on : (ws : List ℕ) (from end group turn : ℕ) → IsGroup group → MasksAt ws (from + turn * 4) end → turn < (end - from) / 4
    → (word : ℕ) → word % 4 ≡ 1 → word < 16 → SetAndGroup (get_or ws (from * 4 + turn * 16 + word) 0) group
mask-on ws from end group turn g m t word w h =
    record {
      set = mask-small _ _ _ m _ (omega (arith, w)) (omega (arith, w)) (omega (arith, room from end turn t, h));
      within = g;
    }

-- the masks of the next four records
gathered-four : (ws : List ℕ) (from end group turn : ℕ) {table left : List ℕ} → Gathering ws from end group table left (from + turn * 4) → turn < (end - from) / 4
    → {one two three four : List ℕ} → Added (get_or ws (from * 4 + turn * 16 + 1) 0) group left one → Added (get_or ws (from * 4 + turn * 16 + 5) 0) group one two
    → Added (get_or ws (from * 4 + turn * 16 + 9) 0) group two three → Added (get_or ws (from * 4 + turn * 16 + 13) 0) group three four
    → Gathering ws from end group table four (from + (turn + 1) * 4)
gathered-four ws from end group turn g t a b c d =
    let r = room from end turn t in
    gathered-at _ _ _ _ _ _ _
    (gathered-at _ _ _ _ _ _ _
    (gathered-at _ _ _ _ _ _ _
    (gathered-at _ _ _ _ _ _ _ g (omega (arith, r)) _ (omega arith) _ a _ refl)
    (omega (arith, r)) _ (omega arith) _ b _ refl)
    (omega (arith, r)) _ (omega arith) _ c _ refl)
    (omega (arith, r)) _ (omega arith) _ d _ (omega arith)

pub add_mask-requires : goal.add_mask-requires
add_mask-requires c = mask-on _ _ _ _ _ c.requires.can_gather.within c.loop-turn.invariant.more (omega arith) _ refl (omega arith)

pub add_mask-requires-in-loop-turn : goal.add_mask-requires-in-loop-turn
add_mask-requires-in-loop-turn c = mask-on _ _ _ _ _ c.requires.can_gather.within c.loop-turn.invariant.more (omega arith) _ refl (omega arith)

pub add_mask-requires-in-loop-turn-2 : goal.add_mask-requires-in-loop-turn-2
add_mask-requires-in-loop-turn-2 c = mask-on _ _ _ _ _ c.requires.can_gather.within c.loop-turn.invariant.more (omega arith) _ refl (omega arith)

pub add_mask-requires-in-loop-turn-3 : goal.add_mask-requires-in-loop-turn-3
add_mask-requires-in-loop-turn-3 c = mask-on _ _ _ _ _ c.requires.can_gather.within c.loop-turn.invariant.more (omega arith) _ refl (omega arith)

pub loop-turn-preserved : goal.loop-turn-preserved
loop-turn-preserved c =
    gathered-four _ _ _ _ _ c.loop-turn.invariant (omega arith) c.add_mask.ensures c.add_mask-in-loop-turn.ensures c.add_mask-in-loop-turn-2.ensures c.add_mask-in-loop-turn-3.ensures

pub returns : goal.returns
returns c = gathered-all c.loop-turn.invariant (omega (arith, c.requires.from_value, c.loop-turn.auto, c.loop-turn-test.false))
