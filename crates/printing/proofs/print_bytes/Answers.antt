-- `printing::print_bytes`: each turn writes a byte more.
use Rattle.std.proofs.Common.{sym, subst}
use Rattle.std.specs.Io.KnownBytes.{Appends}
use Rattle.printing.proofs.WordLaws.{spaced-more, appends-both}
use Rattle.printing.proofs.print_bytes.Goals as goal

pub loop-byte-preserved : goal.loop-byte-preserved
loop-byte-preserved g c =
    subst (Appends _ _) (sym (spaced-more c.args.bytes.now c.loop-byte.byte-index c.loop-byte-test.true))
    (appends-both _ _ _ _ _ c.loop-byte.invariant c.in_ok-write.ensures.bytes)
