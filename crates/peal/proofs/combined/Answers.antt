-- `peal::combined`: an operator at a time.
use Rattle.std.proofs.Common.{arith}
use Rattle.std.proofs.lemmas.Int.{ints, to_z-of_z}
use Rattle.peal.specs.Score.{of_two}
use Rattle.peal.specs.Combining.{combined_of}
use Rattle.peal.proofs.combined.Goals as goal

pub overflow_add-result : goal.overflow_add-result
unfolding combined_of
overflow_add-result c = grind (arith, ints)

pub overflow_mul-result : goal.overflow_mul-result
unfolding combined_of
overflow_mul-result c = grind (arith, to_z-of_z)

pub returns-in-Min : goal.returns-in-Min
unfolding combined_of of_two
returns-in-Min c = grind (arith, ints)

pub returns-in-Max : goal.returns-in-Max
unfolding combined_of of_two
returns-in-Max c = grind (arith, ints)

pub returns-in-Sum : goal.returns-in-Sum
unfolding combined_of
returns-in-Sum c = grind (arith, ints)

pub returns-in-Mul : goal.returns-in-Mul
unfolding combined_of
returns-in-Mul c = grind (arith, to_z-of_z)
