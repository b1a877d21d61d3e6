-- `book::adding::add_policy`: by the verdict.
use Rattle.std.proofs.Common.{◌≡◌, ℕ}
use Rattle.std.proofs.lemmas.Result.{err_from_is_err_and}
use Rattle.std.proofs.Math.Option.{some}
use mir.Syntax.{w32}
use mir.ValLaws.{to_z-of_z}
use Rattle.answers.specs.Answers.{result}
use Rattle.text.specs.Forms.{policy}
use Rattle.book.specs.Acceptance.{default_of, in_range, book_with, accept}
use Rattle.book.specs.SoFar.{so_far_of}
use Rattle.book.specs.Judged.{with_line}
use Rattle.book.proofs.RangeLaws.{new-in-range}
use Rattle.book.proofs.AddingLaws.{fine-passed, fine-bounded}
use Rattle.book.proofs.adding.add_policy.Goals as goal
use Rattle.book.proofs.adding.add_policy.Goals.{In_ok-judge_policy}

pub returns-in_err-judge_policy : goal.returns-in_err-judge_policy
returns-in_err-judge_policy c =
    let p = err_from_is_err_and c.from_residual.result c.from_residual.ensures.1 in
    rw (p.1, p.2, ← to_z-of_z w32 c.args.default c.ranges.default) (c.in_err-judge_policy.ensures c.args.operator c.args.state)

-- the verdict is fine
fine : (c : In_ok-judge_policy) (n : ℕ)
    → result (with_line (so_far_of c.args.book.now c.args.state) (policy c.args.operator (some c.args.default)))
    ≡ accept n (so_far_of c.args.book.now c.args.state) (policy c.args.operator (some c.args.default))
fine c = rw (to_z-of_z w32 c.args.default c.ranges.default) at (c.in_ok-judge_policy.ensures c.args.operator c.args.state)

pub new-requires : goal.new-requires
unfolding in_range default_of
new-requires c =
    let f = fine (goal.at.new-requires c).In_ok-judge_policy in
    rw (to_z-of_z w32 c.args.default c.ranges.default)
    (new-in-range c.args.state.old_zero c.args.operator (some c.args.default) (fine-passed _ (policy _ _) f).range)

pub push_policy-requires : goal.push_policy-requires
unfolding with_line book_with default_of
push_policy-requires c =
    let f = fine (goal.at.push_policy-requires c).In_ok-judge_policy in
    rw (c.new.ensures, to_z-of_z w32 c.args.default c.ranges.default) (fine-bounded _ (policy _ _) f c.requires tt).range
