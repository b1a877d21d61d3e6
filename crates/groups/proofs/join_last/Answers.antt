-- `groups::join_last`: the words before the next are joined.
use native.Mathlib.Omega.{arith}
use Rattle.groups.proofs.Words.{joining-more, joining-all}
use Rattle.groups.proofs.join_last.Goals as goal

pub loop-k-preserved : goal.loop-k-preserved
loop-k-preserved c =
    joining-more _ _ _ _ _ c.requires.room (omega arith) c.loop-k.invariant (omega arith) _ (omega arith) _ c.join_words.ensures

pub returns-clause-joined : goal.returns-clause-joined
returns-clause-joined c = joining-all _ _ _ _ _ c.requires.room (omega arith) c.loop-k.invariant (omega arith)
