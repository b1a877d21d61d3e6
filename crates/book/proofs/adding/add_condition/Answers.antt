-- `book::adding::add_condition`: by the verdict. The codes have room for 16 mentions.
use Rattle.std.proofs.Common.{◌≡◌, ℕ, ◌≤◌, length, ap, arith}
use mir.Syntax.{w32}
use mir.ValLaws.{to_z-of_z}
use Rattle.arith.specs.Leaves.{leaf_count}
use Rattle.answers.specs.Answers.{result}
use Rattle.arith.proofs.Tests.{and_right}
use Rattle.limits.specs.Limits.{threshold_in_range}
use Rattle.text.specs.Codes.{expression_of}
use Rattle.text.specs.Forms.{condition}
use Rattle.text.proofs.MentionLaws.{codes-count}
use Rattle.book.specs.Acceptance.{book_with, in_range, accept}
use Rattle.book.specs.SoFar.{so_far_of}
use Rattle.book.specs.Judged.{with_line}
use Rattle.book.proofs.AddingLaws.{fine-passed, fine-bounded}
use Rattle.book.proofs.MentionedPolicies.{codes-small}
use Rattle.book.proofs.adding.add_condition.Goals as goal
use Rattle.book.proofs.adding.add_condition.Goals.{In_ok-judge_condition}

-- the verdict is fine
fine : (c : In_ok-judge_condition) (n : ℕ)
    → result (with_line (so_far_of c.args.book.now c.args.state) (condition c.args.sense c.args.threshold (expression_of c.args.codes.now)))
    ≡ accept n (so_far_of c.args.book.now c.args.state) (condition c.args.sense c.args.threshold (expression_of c.args.codes.now))
fine c = rw (to_z-of_z w32 c.args.threshold c.ranges.threshold) at (c.in_ok-judge_condition.ensures c.args.sense c.args.state)

few : (c : In_ok-judge_condition) → leaf_count (expression_of c.args.codes.now) ≤ 16
few c = omega (arith, c.requires.few, ap length c.requires.are, codes-count (expression_of c.args.codes.now))

pub new-requires-clause-kept : goal.new-requires-clause-kept
unfolding in_range
new-requires-clause-kept c =
    let i = (goal.at.new-requires-clause-kept c).In_ok-judge_condition in
    let p = fine-passed _ (condition _ _ _) (fine i) in
    let t = threshold_in_range c.args.threshold in
    record {
      few = c.requires.few;
      small = codes-small (length c.args.book.now.policies) c.requires.bounded.range.policies_room c.args.codes.now c.requires.are (and_right t _ p.range);
    }

pub push_condition-requires : goal.push_condition-requires
unfolding with_line book_with
push_condition-requires c =
    let i = (goal.at.push_condition-requires c).In_ok-judge_condition in
    rw (c.new.ensures, to_z-of_z w32 c.args.threshold c.ranges.threshold) (fine-bounded _ (condition _ _ _) (fine i) c.requires.bounded (few i)).range
