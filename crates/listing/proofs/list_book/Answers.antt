-- `listing::list_book`: an accepted book has at most 8 conditions.
use mathlib.Core.Path.{sym, ap, ◌∙◌}
use Rattle.book.specs.Meaning.{checked_meaning}
use Rattle.listing.proofs.Counts.{conditions-few}
use Rattle.listing.proofs.list_book.Goals as goal

pub list_conditions-requires : goal.list_conditions-requires
list_conditions-requires g c = conditions-few c.args.bytes.now _ (sym c.check.ensures ∙ ap checked_meaning c.in-Ok.is)
