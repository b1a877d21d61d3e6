-- `printing::print_words`: the words so far were written.
use Rattle.std.proofs.Common.{take}
use Rattle.std.specs.Io.KnownBytes.{Appends}
use Rattle.printing.specs.Words.{spaced}
use Rattle.printing.proofs.print_words.Given as goal

abbrev pub invariant-loop-word : goal.invariant-loop-word
invariant-loop-word g l = Appends (g.W.Write.contents l.initial.out) (g.W.Write.contents l.out) (spaced (take l.word-index l.words))
