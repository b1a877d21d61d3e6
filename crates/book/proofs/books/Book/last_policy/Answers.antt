-- `book::books::Book::last_policy`: the policy at the last place.
use Rattle.book.proofs.RangeLaws.{last-is}
use Rattle.book.proofs.books.Book.last_policy.Goals as goal

pub returns : goal.returns
returns c = last-is _ _ _ c.policies-policies.ensures.policies c.requires c.index-policies-policies.is
