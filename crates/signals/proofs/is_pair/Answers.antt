-- `signals::is_pair`: a set has as many signals as its number has ones.
use mathlib.Core.Path.{refl}
use native.Mathlib.Omega.{arith}
use borrow.Author.Tests.{lt-leb, le-leb}
use Rattle.arith.specs.Lists.{count_below}
use Rattle.signals.specs.Sets.{signals, is_set, size, is_pair}
use Rattle.signals.proofs.BitLaws.{ones-count}
use Rattle.signals.proofs.is_pair.Goals as goal

pub returns-then-mask-le-HIGHEST_SET : goal.returns-then-mask-le-HIGHEST_SET
unfolding is_pair is_set size signals count_below
returns-then-mask-le-HIGHEST_SET c = rw (le-leb c.args.mask 65535 (omega arith), ones-count 16 c.args.mask (omega arith)) refl

pub returns-else-mask-le-HIGHEST_SET : goal.returns-else-mask-le-HIGHEST_SET
unfolding is_pair is_set
returns-else-mask-le-HIGHEST_SET c = rw (lt-leb c.args.mask 65535 (omega arith)) refl
