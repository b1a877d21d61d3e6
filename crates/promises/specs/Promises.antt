-- Every promise that is a theorem, beyond the contracts of the calls; a reviewer reads this file first. A field's type is a claim, but for
-- `in_range`, and the claim's own file says the words that it is made of. Proved in proofs/Promises.antt.
use Rattle.std.specs.Prelude.{ℕ, List, ◌≡◌}
use Rattle.answers.specs.Answers.{result}
use Rattle.layout.specs.SoundListings.{SoundListings}
use Rattle.rod.specs.SoundReading.{SoundReading}
use Rattle.rod.specs.SingleCalls.{SingleCalls}
use Rattle.checks.specs.OnePass.{OnePass}
use Rattle.peal.specs.Policies.{Book}
use Rattle.peal.specs.EqualityIsPublished.{EqualityIsPublished}
use Rattle.peal.specs.RankedFalls.{RankedFalls}
use Rattle.peal.specs.LinesAreMinimal.{LinesAreMinimal}
use Rattle.peal.specs.LinesAreSingle.{LinesAreSingle}
use Rattle.peal.specs.EachRuleIsALine.{EachRuleIsALine}
use Rattle.peal.specs.LinesAreFew.{LinesAreFew}
use Rattle.peal.specs.SearchFindsMinimal.{SearchFindsMinimal}
use Rattle.peal.specs.SearchFindsLines.{SearchFindsLines}
use Rattle.peal.specs.MinimalSetsDecide.{MinimalSetsDecide}
use Rattle.peal.specs.OrderDoesNotMatter.{OrderDoesNotMatter}
use Rattle.peal.specs.LinesDecide.{LinesDecide}
use Rattle.peal.specs.MasksDecide.{MasksDecide}
use Rattle.translation.specs.RecordsAreFew.{RecordsAreFew}
use Rattle.translation.specs.MeetingIsHaving.{MeetingIsHaving}
use Rattle.translation.specs.QuietIsMeeting.{QuietIsMeeting}
use Rattle.book.specs.Books.{read}
use Rattle.book.specs.Ranges.{BookInRange}
use Rattle.book.specs.OldBooks.{OldBooks}
use Rattle.score.specs.ShownTells.{ShownTells}
use Rattle.agreement.specs.Demand3.{Demand3}
use Rattle.agreement.specs.CompiledSound.{CompiledSound}
use Rattle.agreement.specs.CompiledAgreement.{CompiledAgreement, ReadingAgreement}
use Rattle.agreement.specs.BookAgreement.{BookAgreement}
use Rattle.agreement.specs.ConditionAgreement.{ConditionAgreement}
use Rattle.agreement.specs.PolicyAgreement.{LinesAgreement, QuietAgreement, PolicyAgreement}
use Rattle.agreement.specs.WordsFit.{WordsFit}
use Rattle.agreement.specs.OldListings.{OldListings}
use Rattle.same_lines.specs.SameLines.{SameLinesSamePolicy}
use Rattle.same_lines.specs.Premises.{Premises}
use Rattle.exports.specs.NothingLost.{NothingLost}

pub record Promises : Type 0 where
  -- ---- the demands, and what the change requests ask

  -- demand 3: of every accepted book, each condition and each set, rod and logger say the same, and the lines are the minimal sets
  pub demand3 : Demand3
  -- a score that equals T is on the published side, that of a rule or of a default
  pub equality : EqualityIsPublished
  -- books from before change request 2 are read as they were: as they are, with an `o` above, or with their zeros written
  pub old_books : OldBooks
  -- what is shown of a score (change request 3) is the score, and tells the decision
  pub shown : ShownTells
  -- by listings from before change request 4 the rod says what it says by those of today
  pub old_listings : OldListings
  -- one pass over the sets (change request 5) finds what the choice check finds, and judges as many
  pub one_pass : OnePass
  -- a traverse (change request 6) answers as single calls do
  pub single_calls : SingleCalls
  -- two compiled policies of equal kind and mask decide alike exactly if they have the same lines (change request 12)
  pub same_lines : SameLinesSamePolicy
  -- and without one of its premises this would be false
  pub premises : Premises
  -- the number that a call for C returns tells its whole answer
  pub nothing_lost : NothingLost
  -- ---- books and listings

  -- every accepted book keeps to the limits and ranges
  pub in_range : (bytes : List ℕ) (b : Book) → read bytes ≡ result b → BookInRange b
  -- a sound listing is that of its pairs and its tree, word for word, and such listings are sound
  pub listings : SoundListings
  -- on it the rod gives the value of its tree
  pub trees : SoundReading
  -- what compiling leaves is sound
  pub sound : CompiledSound
  -- its words fit 32 bits
  pub words : WordsFit
  -- and it has at most 1,048,623 records
  pub records : RecordsAreFew
  -- ---- the lines

  -- the ranked rules are the policy's, from the highest rank down
  pub ranked : RankedFalls
  -- the lines are exactly the minimal sets, each once, in falling order
  pub minimal : LinesAreMinimal
  -- in max and min they are the single rules that document 01 names
  pub single : LinesAreSingle
  -- where the empty set has the property, each rule is a line
  pub each_rule : EachRuleIsALine
  -- of n rules there are at most 2 to the n
  pub few : LinesAreFew
  -- figure 5's search, begun beyond the empty set, finds the minimal sets, and so the lines
  pub search : SearchFindsMinimal
  pub search_of_lines : SearchFindsLines
  -- ---- why rod and logger agree, step by step

  -- a property of rules does not depend on their order
  pub order : OrderDoesNotMatter
  -- minimal sets decide a property that adding rules keeps, and so lines decide theirs
  pub minimal_sets : MinimalSetsDecide
  pub lines : LinesDecide
  -- masks say which rules are present
  pub masks : MasksDecide
  -- where rules are present, their score meets the condition as they have the property; where none is, quiet says it
  pub having : MeetingIsHaving
  pub quiet : QuietIsMeeting
  -- so rod and logger agree on a policy, by its lines or by quiet
  pub policy_by_lines : LinesAgreement
  pub policy_by_quiet : QuietAgreement
  pub policy : PolicyAgreement
  -- on a condition, on every accepted book, and on what was compiled
  pub condition : ConditionAgreement
  pub book : BookAgreement
  pub compiled : CompiledAgreement
  pub reading : ReadingAgreement
