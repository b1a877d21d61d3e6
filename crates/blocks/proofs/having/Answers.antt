-- `blocks::having`: each word by a computed test of its 64 bits.
use mathlib.Core.Path.{refl}
use native.Mathlib.Omega.{arith}
use Rattle.signals.specs.Computing.{signals_compute}
use Rattle.blocks.proofs.BlockLaws.{having-signal}
use Rattle.blocks.proofs.having.Goals as goal

pub returns-in-0 : goal.returns-in-0
unfolding signals_compute
returns-in-0 c = having-signal _ 0 _ refl c.in-0.is

pub returns-in-1 : goal.returns-in-1
unfolding signals_compute
returns-in-1 c = having-signal _ 1 _ refl c.in-1.is

pub returns-in-2 : goal.returns-in-2
unfolding signals_compute
returns-in-2 c = having-signal _ 2 _ refl c.in-2.is

pub returns-in-3 : goal.returns-in-3
unfolding signals_compute
returns-in-3 c = having-signal _ 3 _ refl c.in-3.is

pub returns-in-4 : goal.returns-in-4
unfolding signals_compute
returns-in-4 c = having-signal _ 4 _ refl c.in-4.is

pub returns-in_default : goal.returns-in_default
unfolding signals_compute
returns-in_default c = having-signal _ 5 _ refl (omega arith)
