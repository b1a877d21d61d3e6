-- `checks::sound_choice`: no set of the groups before gives the other answer, and those without a pair are counted.
use Prim.Native.Nat.{ℕ, ◌+◌, ◌*◌, ◌%◌, ◌≤◌, ◌<◌}
use mathlib.Core.Bool.{Bool, not, cond}
use mathlib.Core.List.{List, []}
use mathlib.Core.Option.{none, some}
use mathlib.Core.Path.{◌≡◌, sym, ap, ◌∙◌}
use native.Mathlib.Omega.{arith}
use Rattle.arith.specs.Lists.{count_below}
use Rattle.arith.proofs.Counts.{count-zero}
use Rattle.blocks.specs.Blocks.{WordOf}
use Rattle.groups.specs.Groups.{GroupOf, SoundWith}
use Rattle.rod.specs.Reading.{says}
use Rattle.checks.specs.Checks.{permitted, gives, lowest_from}
use lib.Dec.{eqb}
use lib.ListN.{get_or, replicate}
use Rattle.signals.specs.Sets.{present}
use Rattle.checks.specs.Walking.{GroupApart, PermittedUpTo}
use Rattle.checks.proofs.Answers.{empty-told, other-group, chosen-by}
use Rattle.groups.proofs.Words.{no-values}
use Rattle.checks.proofs.Search.{none_yet, next-group, in_group, none_at_all, found_among}
use Rattle.checks.proofs.Pairs.{permitted-all}
use Rattle.checks.proofs.Counting.{counted-on}
use Rattle.checks.proofs.sound_choice.Goals as goal

pub loop-group-init : goal.loop-group-init
loop-group-init c = (no-values, λ l. absurd (omega arith), none_yet _ _, sym (count-zero _))

-- the sets of a group that the tables tell of are judged as far as one place of it
module _ (ws : List ℕ) (pairs group judged : ℕ) (barred : List ℕ) (sound : SoundWith ws pairs) (before : judged ≡ count_below (1024 * group) (permitted ws))
    (p : GroupOf (λ set. not (permitted ws set)) group barred) where
  judged-on : (last here : ℕ) → PermittedUpTo barred pairs last here
      → (judged + here ≡ count_below (1024 * group + (last + 1)) (permitted ws)) × (judged + here ≤ 1024 * group + (last + 1))
  judged-on last here u = counted-on (permitted ws) (1024 * group) (last + 1) _ _ before (u _ _ (permitted-all ws pairs sound) p)

  -- as far as the set that was found
  judged-to : (test : ℕ → Bool) (set here : ℕ) → some set ≡ lowest_from 1024 (1024 * group) test → PermittedUpTo barred pairs (set % 1024) here
      → judged + here ≡ count_below (set + 1) (permitted ws)
  judged-to test set here found u =
      let place = found_among _ _ _ _ (sym found) in
      let same : 1024 * group + (set % 1024 + 1) ≡ set + 1 = omega arith in
      (judged-on (set % 1024) here u).0 ∙ ap (λ (n : ℕ). count_below n (permitted ws)) same

-- what the empty set gives, and where the other answer is given in the group
told-so : (ws : List ℕ) (group : ℕ) (barred values : List ℕ) (before empty : Bool) (word : ℕ)
    → GroupOf (λ set. not (permitted ws set)) group barred → GroupOf (says ws) group values → (0 < group → before ≡ says ws 0)
    → empty ≡ cond (eqb group 0) (present (get_or values 0 0) 0) before → WordOf (λ j. empty) word
    → (empty ≡ says ws 0) × GroupApart (gives ws (not (says ws 0))) group barred barred values (replicate 16 word)
told-so ws group barred values before empty word p r kept e w =
    let same = e ∙ empty-told ws group values before r kept in (same, other-group ws empty same group barred values word p r w)

pub overflow_add-judged : goal.overflow_add-judged
overflow_add-judged c =
    omega (arith, (judged-on _ _ _ _ c.group_barred-barred.result c.args.listing.sound c.loop-group.invariant.3 c.group_barred-barred.ensures (c.in-Some.set % 1024) _ c.permitted_up_to-judged.ensures).1)

pub returns-in-Some : goal.returns-in-Some
returns-in-Some c =
    let i = c.loop-group.invariant in
    let sound = c.args.listing.sound in
    let t = told-so _ _ c.group_barred-barred.result (get_or c.reading.new.values 0 []) _ _ _ c.group_barred-barred.ensures c.reading.ensures.told i.1 c.empty_gives-empty.ensures c.all_if-same.ensures in
    let found = c.in-Some.ensures _ t.1 in
    let judged = judged-to _ _ _ _ c.group_barred-barred.result sound i.3 c.group_barred-barred.ensures _ _ _ found c.permitted_up_to-judged.ensures in
    c.answer.ensures ∙ chosen-by _ sound.0 _ t.0 (some c.in-Some.set) (in_group _ _ i.2 (omega arith) _ (sym found)) _ judged

pub overflow_add-judged-in-loop-group : goal.overflow_add-judged-in-loop-group
overflow_add-judged-in-loop-group c =
    omega (arith, (judged-on _ _ _ _ c.group_barred-barred.result c.args.listing.sound c.loop-group.invariant.3 c.group_barred-barred.ensures 1023 _ c.permitted_up_to-judged-in-loop-group.ensures).1)

pub loop-group-preserved : goal.loop-group-preserved
loop-group-preserved c =
    let i = c.loop-group.invariant in
    let t = told-so _ _ c.group_barred-barred.result (get_or c.reading.new.values 0 []) _ _ _ c.group_barred-barred.ensures c.reading.ensures.told i.1 c.empty_gives-empty.ensures c.all_if-same.ensures in
    let judged = judged-on _ _ _ _ c.group_barred-barred.result c.args.listing.sound i.3 c.group_barred-barred.ensures 1023 _ c.permitted_up_to-judged-in-loop-group.ensures in (
      c.reading.ensures.room,
      λ later. t.0,
      next-group _ _ i.2 (sym (c.in_default.ensures _ t.1)),
      judged.0 ∙ ap (λ (n : ℕ). count_below n (permitted c.args.listing.words.now)) (omega arith),
    )

pub returns : goal.returns
returns c =
    let i = c.loop-group.invariant in
    let last : c.loop-group.group ≡ 64 = omega arith in
    c.answer-2.ensures
    ∙ chosen-by _ c.args.listing.sound.0 _ (i.1 (omega arith)) none (none_at_all _ _ i.2 last) _ (i.3 ∙ ap (λ (n : ℕ). count_below n (permitted c.args.listing.words.now)) (omega arith))
