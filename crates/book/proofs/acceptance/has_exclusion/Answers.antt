-- `book::acceptance::has_exclusion`: the pair as it stands, or turned over.
use Rattle.std.proofs.Common.{refl, sym, ◌∙◌}
use Rattle.book.proofs.JudgeLaws.{either-order}
use Rattle.book.proofs.acceptance.has_exclusion.Goals as goal

pub returns-then-contains : goal.returns-then-contains
returns-then-contains c = rw c.if-contains.true (either-order _ _ _ (sym c.if-contains.true ∙ c.contains.ensures.value) refl)

pub returns-else-contains : goal.returns-else-contains
returns-else-contains c = either-order _ _ _ (sym c.if-contains.false ∙ c.contains.ensures.value) c.contains-else-contains.ensures.value
