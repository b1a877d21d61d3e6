-- What the answers of the code mean, by the numbers of document 01 and of change request 6.
use Rattle.std.specs.Prelude.{ℕ, ◌<◌, List, ◌≡◌, Result, Ok, Err}
use Rattle.std.proofs.Common.{lit<}
use Rattle.answers.specs.Answers.{Answer, result, refused}
use Rattle.layout.specs.Meaning.{fault_number, fault_number_few, fault_value}
use Rattle.rod.specs.Traversing.{traversed, answer_count, answers_after}
use Rattle.rod.specs.declared.TraverseError.{TraverseError}
use Rattle.rod.specs.declared.TraverseError.TheVariants.{Unequal, Declined}

-- the number of what a traverse is refused for: 11 of change request 6, or that of the listing's fault
abbrev pub error_number : TraverseError → ℕ
error_number Unequal = 11
error_number (Declined f) = fault_number f

-- which has room in a call for C
pub error_number_few : (e : TraverseError) → error_number e < 16
error_number_few Unequal = lit< tt
error_number_few (Declined f) = fault_number_few f

-- the value beside it
abbrev pub error_value : TraverseError → ℕ
error_value Unequal = 0
error_value (Declined f) = fault_value f

-- the answer of `rod::traverse`
abbrev pub traverse_meaning : Result ℕ TraverseError → Answer ℕ
traverse_meaning (Ok n) = result n
traverse_meaning (Err e) = refused (error_number e) (error_value e)

-- what `rod::traverse` promises: for these words, sets and lent answers it returned this, and left these answers
pub record TraverseRan (ws sets lent : List ℕ) (returned : Result ℕ TraverseError) (left : List ℕ) : Type 0 where
  pub returning : traverse_meaning returned ≡ answer_count (traversed ws sets lent)
  pub leaving : left ≡ answers_after lent (traversed ws sets lent)
