-- `book::policies::Policy::default`: a policy without rules is in range.
use Rattle.std.proofs.Common.{refl, true}
use Rattle.std.proofs.Math.Option.{none}
use Rattle.peal.specs.declared.Operator.TheVariants.{Min}
use Rattle.limits.specs.Limits.{default_in_range}
use Rattle.book.specs.Acceptance.{missing_default, default_of}
use Rattle.book.proofs.RangeLaws.{new-in-range}
use Rattle.book.proofs.policies.PolicyDefault.default.Goals as goal

pub new-requires : goal.new-requires
unfolding default_in_range missing_default default_of
new-requires c = new-in-range true Min none refl
