-- `groups::is_within`: by the code's `&`.
use Rattle.groups.proofs.AddedLaws.{within-test}
use Rattle.groups.proofs.is_within.Goals as goal

pub returns : goal.returns
returns c = within-test _ _ c.requires.set c.requires.within
