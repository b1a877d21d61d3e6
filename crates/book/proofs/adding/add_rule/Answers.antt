-- `book::adding::add_rule`: by the verdict.
use Rattle.text.specs.Forms.{rule}
use Rattle.book.specs.Acceptance.{book_with}
use Rattle.book.proofs.BoundedLaws.{changed-in-range}
use Rattle.book.proofs.AddingLaws.{fine-passed, rule-placed, rule-left}
use Rattle.book.proofs.adding.add_rule.Goals as goal

pub push_rule-requires-clause-some : goal.push_rule-requires-clause-some
push_rule-requires-clause-some c = c.requires.some (rule-placed _ c.args.rule.signal c.args.rule.score c.in_ok-judge_rule.ensures)

pub push_rule-requires-clause-range : goal.push_rule-requires-clause-range
push_rule-requires-clause-range c = changed-in-range _ c.requires 0 _ _ (fine-passed _ (rule c.args.rule.signal c.args.rule.score) c.in_ok-judge_rule.ensures)

pub returns : goal.returns
unfolding book_with
returns c = λ n. rw c.push_rule.ensures (rule-left _ c.args.rule.signal c.args.rule.score c.in_ok-judge_rule.ensures n)
