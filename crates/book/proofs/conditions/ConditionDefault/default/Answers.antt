-- `book::conditions::Condition::default`: the code of one mention is that of an expression.
use Rattle.std.proofs.Common.{subst, lit≤}
use Rattle.arith.specs.Trees.{leaf}
use Rattle.text.specs.Codes.{AreCodes}
use Rattle.text.proofs.CodeLaws.{codes-leaf, are-codes}
use Rattle.book.proofs.conditions.ConditionDefault.default.Goals as goal

pub invariant_of-result : goal.invariant_of-result
invariant_of-result c = (lit≤ tt, subst AreCodes (codes-leaf 0) (are-codes (leaf 0)))
