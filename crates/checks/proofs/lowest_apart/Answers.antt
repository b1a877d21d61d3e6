-- `checks::lowest_apart`: no set of the blocks before this one passes the test.
use mathlib.Core.Path.{◌∙◌}
use Rattle.checks.proofs.Search.{none_yet, next-block, in_block}
use Rattle.checks.proofs.lowest_apart.Goals as goal

pub loop-k-init : goal.loop-k-init
loop-k-init c test h = none_yet test _

-- the word at hand tells the test of its block, by the tables
pub returns-then-word-ne0 : goal.returns-then-word-ne0
returns-then-word-ne0 c test h =
    in_block test _ _ (c.loop-k.invariant test h) c.loop-k-test.true _
    (c.lowest_in.ensures test (λ j b. c.apart_word-word.ensures j b ∙ h _ c.loop-k-test.true j b))

pub loop-k-preserved : goal.loop-k-preserved
loop-k-preserved c test h =
    next-block test _ _ (c.loop-k.invariant test h) _
    (λ j b. c.apart_word-word.ensures j b ∙ h _ c.loop-k-test.true j b) c.if-word-ne0.false
