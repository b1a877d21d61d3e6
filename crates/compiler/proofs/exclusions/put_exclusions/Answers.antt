-- `compiler::exclusions::put_exclusions`: what is written before exclusion i leads to the records of all of them.
use mathlib.Core.List.{List, map}
use mathlib.Core.Path.{ap, ◌∙◌}
use Rattle.layout.specs.Nodes.{exclusion_records}
use Rattle.layout.specs.Writing.{put_records}
use Rattle.peal.specs.Policies.{Exclusion}
use Rattle.peal.specs.Standins.{no_exclusion}
use Rattle.translation.specs.Translation.{pair_mask}
use Rattle.compiler.proofs.PairLaws.{pairs-turn, pairs_end}
use Rattle.compiler.proofs.exclusions.put_exclusions.Goals as goal

pub loop-i-preserved : goal.loop-i-preserved
unfolding no_exclusion
loop-i-preserved c = pairs-turn c.exclusions-exclusions.result.now c.loop-i.i _ _ c.loop-i-test.true _ c.pair_mask.ensures _ c.put_record.ensures c.loop-i.invariant

pub returns : goal.returns
returns c =
    pairs_end c.exclusions-exclusions.result.now c.loop-i.i _ _ c.loop-i-test.false c.loop-i.invariant
    ∙ ap (λ (xs : List Exclusion). put_records c.args.words.now 1 (exclusion_records 1 (map pair_mask xs))) c.exclusions-exclusions.ensures.exclusions
