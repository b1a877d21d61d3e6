-- Each promise is the law of its name.
use Rattle.layout.proofs.SoundListings.{sound-listings}
use Rattle.rod.proofs.Trees.{sound-reading}
use Rattle.rod.proofs.SingleCalls.{single-calls}
use Rattle.checks.proofs.OnePass.{one-pass}
use Rattle.peal.proofs.Equality.{equality-is-published}
use Rattle.peal.proofs.RankLaws.{ranked-falls}
use Rattle.peal.proofs.LineLaws.{lines-are-minimal, lines-are-few, search-finds-lines}
use Rattle.peal.proofs.SingleLaws.{lines-are-single, each-rule-is-a-line}
use Rattle.peal.proofs.SearchLaws.{search-finds-minimal}
use Rattle.peal.proofs.InsideLaws.{minimal-sets-decide, order-does-not-matter, lines-decide}
use Rattle.peal.proofs.MaskLaws.{masks-decide}
use Rattle.translation.proofs.RecordCount.{records-are-few}
use Rattle.translation.proofs.MeetingLaws.{meeting-is-having, quiet-is-meeting}
use Rattle.book.proofs.BoundedLaws.{read-in-range}
use Rattle.book.proofs.OldBookLaws.{old-books}
use Rattle.score.proofs.ShownTells.{shown-tells}
use Rattle.agreement.proofs.Policies.{lines-agreement, quiet-agreement, policy-agreement}
use Rattle.agreement.proofs.Conditions.{condition-agreement}
use Rattle.agreement.proofs.Books.{book-agreement}
use Rattle.agreement.proofs.Words.{words-fit}
use Rattle.agreement.proofs.Demand3.{compiled-agreement, compiled-sound, reading-agreement, demand-3}
use Rattle.agreement.proofs.OldListings.{old-listings}
use Rattle.same_lines.proofs.SameLines.{same-lines-same-policy}
use Rattle.same_lines.proofs.Premises.{premises as same-lines-premises}
use Rattle.exports.proofs.NothingLost.{nothing-lost}
use Rattle.promises.specs.Promises.{Promises}

pub promises : Promises
promises =
    record {
      demand3 = demand-3;
      equality = equality-is-published;
      old_books = old-books;
      shown = shown-tells;
      old_listings = old-listings;
      one_pass = one-pass;
      single_calls = single-calls;
      same_lines = same-lines-same-policy;
      premises = same-lines-premises;
      nothing_lost = nothing-lost;
      in_range = read-in-range;
      listings = sound-listings;
      trees = sound-reading;
      sound = compiled-sound;
      words = words-fit;
      records = records-are-few;
      ranked = ranked-falls;
      minimal = lines-are-minimal;
      single = lines-are-single;
      each_rule = each-rule-is-a-line;
      few = lines-are-few;
      search = search-finds-minimal;
      search_of_lines = search-finds-lines;
      order = order-does-not-matter;
      minimal_sets = minimal-sets-decide;
      lines = lines-decide;
      masks = masks-decide;
      having = meeting-is-having;
      quiet = quiet-is-meeting;
      policy_by_lines = lines-agreement;
      policy_by_quiet = quiet-agreement;
      policy = policy-agreement;
      condition = condition-agreement;
      book = book-agreement;
      compiled = compiled-agreement;
      reading = reading-agreement;
    }
