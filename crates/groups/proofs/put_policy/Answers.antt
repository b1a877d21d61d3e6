-- `groups::put_policy`: by one word of the overlap if it is the same in every block, and else block by block.
use mathlib.Core.Path.{◌≡◌}
use borrow.Author.Rules.{rules}
use Rattle.groups.proofs.MaskRuns.{policy-masks, policy-found}
use Rattle.groups.proofs.Words.{policy-told, even-block, even-by}
use Rattle.rod.specs.Reading.{some_line}
use Rattle.rod.specs.Values.{listed_at}
use Rattle.groups.proofs.put_policy.Goals as goal

pub lines_inside-requires-clause-masks_at : goal.lines_inside-requires-clause-masks_at
lines_inside-requires-clause-masks_at c = policy-masks _ _ _ c.requires.policy_here

pub returns-else-not-is_even : goal.returns-else-not-is_even
returns-else-not-is_even c =
    let a = c.args in
    let found = policy-found _ _ _ c.requires.policy_here some_line _ c.lines_inside.result c.lines_inside.ensures in
    let even = even-block _ _ _ (even-by _ _ c.requires.policy_here.set c.requires.group _ c.is_even.ensures c.if-not-is_even.false) c.block_overlap-shared.ensures in
    record {
      room = c.put.ensures.room;
      told = policy-told (listed_at a.words.now a.at a.quiet a.turned) a.group _ _ _ found c.all_if.ensures c.all_if-2.ensures _ _
          (λ k b shared e. let same : shared ≡ c.block_overlap-shared.result = search rules in rw same (even k b)) c.put.ensures;
    }

pub returns-then-not-is_even : goal.returns-then-not-is_even
returns-then-not-is_even c =
    let a = c.args in
    let found = policy-found _ _ _ c.requires.policy_here some_line _ c.lines_inside.result c.lines_inside.ensures in
    record {
      room = c.put-then-not-is_even.ensures.room;
      told = policy-told (listed_at a.words.now a.at a.quiet a.turned) a.group _ _ _ found c.all_if.ensures c.all_if-2.ensures _ _
          (λ k b shared e. search rules) c.put-then-not-is_even.ensures;
    }
