-- `groups::Policy::put`: the words before the next are put.
use Prim.Native.Nat.{◌<◌}
use mathlib.Core.Logic.{◌≢◌}
use native.Mathlib.Omega.{arith}
use borrow.Author.Count.{below_more}
use lib.ListN.{length, length-set}
use lib.Seq.{get_or-set_same, get_or-set_other}
use Rattle.groups.proofs.Policy.put.Goals as goal

pub loop-k-preserved : goal.loop-k-preserved
loop-k-preserved g c = (
  rw length-set c.loop-k.invariant.0,
  below_more _ _
      (λ k h. let other : k ≢ c.loop-k.k = omega arith in rw get_or-set_other (c.loop-k.invariant.1 k h))
      (let within : c.loop-k.k < length c.loop-k.table = omega arith in rw get_or-set_same (_, c.overlap.ensures, c.word.ensures)),
)

pub returns : goal.returns
returns g c = record { room = c.loop-k.invariant.0; told = λ k b. c.loop-k.invariant.1 k (omega arith) }
