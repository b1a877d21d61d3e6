-- What the answers of the code mean, by document 01's numbers.
use Rattle.std.specs.Fmt.{decimal}
use Rattle.std.specs.Prelude.{ℕ, List, ◌≡◌, Result, Ok, Err, ◌++◌, codes}
use Rattle.answers.specs.Answers.{Answer, result, refused_text}
use Rattle.layout.specs.Meaning.{fault_number, fault_value, fault_meaning}
use Rattle.layout.specs.declared.Fault.{Fault}
use Rattle.layout.specs.Judgement.{verdict}
use Rattle.checks.specs.Checks.{Choice, always, never, both, Chosen, Which, first, second, Comparison, alike, differ, declined}
use Rattle.checks.specs.declared.Outcome.{Outcome}
use Rattle.checks.specs.declared.Outcome.TheVariants.{Always, Never, Both}
use Rattle.checks.specs.declared.Chosen.{Chosen as CodeChosen}
use Rattle.checks.specs.declared.Which.{Which as CodeWhich}
use Rattle.checks.specs.declared.Which.TheVariants.{First, Second}
use Rattle.checks.specs.declared.Comparison.{Comparison as CodeComparison}
use Rattle.checks.specs.declared.Comparison.TheVariants.{Alike, Differ}
use Rattle.checks.specs.declared.CompareError.{CompareError}

-- what the choice check found
abbrev pub outcome_meaning : Outcome → Choice
outcome_meaning Always = always
outcome_meaning Never = never
outcome_meaning (Both y n) = both y n

-- with how many sets were judged
abbrev pub chosen_meaning : CodeChosen → Chosen
chosen_meaning c = record { choice = outcome_meaning c.choice; judged = c.judged }

-- the answer of `checks::choice`
abbrev pub choice_meaning : Result CodeChosen Fault → Answer Chosen
choice_meaning (Ok c) = result (chosen_meaning c)
choice_meaning (Err f) = fault_meaning f

-- one of the two listings
abbrev pub which_meaning : CodeWhich → Which
which_meaning First = first
which_meaning Second = second

-- the answer of `checks::compare`
abbrev pub comparison_meaning : Result CodeComparison CompareError → Comparison
comparison_meaning (Ok Alike) = alike
comparison_meaning (Ok (Differ set which)) = differ set (which_meaning which)
comparison_meaning (Err e) = declined (which_meaning e.listing) (fault_number e.fault) (fault_value e.fault)

-- the words of one of the two listings were declined for this
pub record DeclinedBy (ws : List ℕ) (which : CodeWhich) (e : CompareError) : Type 0 where
  pub listing : e.listing ≡ which
  pub fault : verdict ws ≡ fault_meaning {A = Unit {0}} e.fault

-- ---- as programs print them

abbrev pub outcome_text : Outcome → List ℕ
outcome_text Always = codes "always"
outcome_text Never = codes "never"
outcome_text (Both y n) = codes "both " ++ decimal y ++ codes " " ++ decimal n

abbrev pub chosen_text : CodeChosen → List ℕ
chosen_text c = outcome_text c.choice ++ codes " judged " ++ decimal c.judged

abbrev pub which_text : CodeWhich → List ℕ
which_text First = codes "first"
which_text Second = codes "second"

abbrev pub compared_text : CodeComparison → List ℕ
compared_text Alike = codes "alike"
compared_text (Differ set which) = codes "set " ++ decimal set ++ codes " " ++ which_text which

abbrev pub error_text : CompareError → List ℕ
error_text e = which_text e.listing ++ codes " " ++ refused_text (fault_number e.fault) (fault_value e.fault)
