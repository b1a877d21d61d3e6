-- `listing::list_conditions`: the words stay as many.
use Rattle.std.proofs.Common.{length, ◌≡◌}
use Rattle.listing.proofs.list_conditions.Given as goal

abbrev pub invariant-loop-condition : goal.invariant-loop-condition
invariant-loop-condition g l = length l.words ≡ 16384
