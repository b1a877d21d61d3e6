-- `groups::join_words`: each return by the test that led there.
use Rattle.groups.proofs.Words.{words-or, words-and}
use Rattle.groups.proofs.join_words.Goals as goal

pub returns-then-or : goal.returns-then-or
returns-then-or c = words-or _ _ _ c.if-or.true

pub returns-else-or : goal.returns-else-or
returns-else-or c = words-and _ _ _ c.if-or.false
