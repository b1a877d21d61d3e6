-- `book::adding::add_exclusion`: by the verdict.
use Rattle.text.specs.Forms.{exclusion}
use Rattle.book.specs.Acceptance.{book_with}
use Rattle.book.specs.Judged.{with_line}
use Rattle.book.proofs.AddingLaws.{fine-bounded}
use Rattle.book.proofs.adding.add_exclusion.Goals as goal

pub push_exclusion-requires : goal.push_exclusion-requires
unfolding with_line book_with
push_exclusion-requires c = (fine-bounded _ (exclusion c.args.exclusion.first c.args.exclusion.second) (c.in_ok-judge_exclusion.ensures c.args.state) c.requires tt).range
