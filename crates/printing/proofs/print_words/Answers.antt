-- `printing::print_words`: each turn writes a word more.
use Rattle.std.proofs.Common.{sym, subst}
use Rattle.std.specs.Io.KnownBytes.{Appends}
use Rattle.printing.proofs.WordLaws.{spaced-more, appends-both}
use Rattle.printing.proofs.print_words.Goals as goal

pub loop-word-preserved : goal.loop-word-preserved
loop-word-preserved g c =
    subst (Appends _ _) (sym (spaced-more c.args.words.now c.loop-word.word-index c.loop-word-test.true))
    (appends-both _ _ _ _ _ c.loop-word.invariant c.in_ok-write.ensures.bytes)
