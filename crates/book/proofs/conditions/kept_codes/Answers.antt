-- `book::conditions::kept_codes`: a code more is kept.
use mathlib.Core.Path.{sym, ◌∙◌}
use Prim.Native.Nat.{◌<◌}
use native.Mathlib.Omega.{arith}
use lib.ListN.{length, length-set}
use Rattle.std.proofs.lemmas.List.{take_more, take_more_set}
use Rattle.book.proofs.conditions.kept_codes.Goals as goal

pub loop-i-preserved : goal.loop-i-preserved
loop-i-preserved c =
    let l = c.loop-i in
    let there : l.i < length l.kept = omega (arith, l.invariant.0, c.requires.few, c.loop-i-test.true) in (
      length-set l.kept l.i c.kept_code.result ∙ l.invariant.0,
      rw (take_more_set l.kept l.i c.kept_code.result there, l.invariant.1, c.kept_code.ensures) (sym (take_more c.args.codes.now l.i _ c.loop-i-test.true)),
    )
