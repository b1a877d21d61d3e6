-- `printing::print_bytes`: the bytes so far were written.
use Rattle.std.proofs.Common.{take}
use Rattle.std.specs.Io.KnownBytes.{Appends}
use Rattle.printing.specs.Words.{spaced}
use Rattle.printing.proofs.print_bytes.Given as goal

abbrev pub invariant-loop-byte : goal.invariant-loop-byte
invariant-loop-byte g l = Appends (g.W.Write.contents l.initial.out) (g.W.Write.contents l.out) (spaced (take l.byte-index l.bytes))
