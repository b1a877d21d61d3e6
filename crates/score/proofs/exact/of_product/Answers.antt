-- `score::exact::of_product`: a unit has 100 to the 8 parts.
use Rattle.std.proofs.Common.{arith, ◌-◌}
use Rattle.std.proofs.Math.Nat.{pow-le-pow_right}
use Rattle.score.proofs.PairLaws.{few-parts, pair-of-parts}
use Rattle.score.proofs.exact.of_product.Goals as goal

pub pow-requires : goal.pow-requires
pow-requires c = omega (arith, pow-le-pow_right {n = 100} (omega arith) {i = 8 - c.args.count} {j = 8} (omega arith))

pub overflow_mul-parts : goal.overflow_mul-parts
overflow_mul-parts c = rw c.pow.ensures (omega (arith, few-parts c.args.product c.args.count c.requires.0 c.requires.1))

pub overflow_cast-result : goal.overflow_cast-result
overflow_cast-result c = rw c.pow.ensures (omega (arith, few-parts c.args.product c.args.count c.requires.0 c.requires.1))

pub returns : goal.returns
returns c = rw c.pow.ensures (pair-of-parts _ (few-parts c.args.product c.args.count c.requires.0 c.requires.1))
