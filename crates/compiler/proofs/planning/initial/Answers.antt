-- `compiler::planning::initial`: an operator at a time.
use mathlib.Core.Path.{sym, ap}
use Rattle.compiler.specs.Worth.{initial}
use Rattle.compiler.proofs.planning.initial.Goals as goal

pub returns-in-Sum : goal.returns-in-Sum
unfolding initial
returns-in-Sum c = ap initial (sym c.in-Sum.is)

pub returns-in-Mul : goal.returns-in-Mul
unfolding initial
returns-in-Mul c = ap initial (sym c.in-Mul.is)

pub returns-in-Max : goal.returns-in-Max
unfolding initial
returns-in-Max c = ap initial (sym c.in-Max.is)

pub returns-in-Min : goal.returns-in-Min
unfolding initial
returns-in-Min c = ap initial (sym c.in-Min.is)
