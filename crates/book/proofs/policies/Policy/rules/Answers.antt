-- `book::policies::Policy::rules`: sixteen at most.
use Rattle.std.proofs.Common.{arith}
use Rattle.book.proofs.RangeLaws.{rules-at-most}
use Rattle.book.proofs.policies.Policy.rules.Goals as goal

pub shared_ref_as_front-result : goal.shared_ref_as_front-result
shared_ref_as_front-result c = omega (arith, rules-at-most _ c.self.invariant.1, c.self.invariant.2)
