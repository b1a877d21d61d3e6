-- What the answers of the code mean, by document 01's numbers.
use Rattle.std.specs.Prelude.{ℕ, ◌<◌, Result, Ok, Err}
use Rattle.std.proofs.Common.{lit<}
use Rattle.answers.specs.Answers.{Answer, result, refused}
use Rattle.layout.specs.declared.Fault.{Fault}
use Rattle.layout.specs.declared.Fault.TheVariants.{Length, Record}

-- a fault's number in document 01's table
abbrev pub fault_number : Fault → ℕ
fault_number Length = 9
fault_number (Record n) = 10

-- which has room in a call for C
pub fault_number_few : (f : Fault) → fault_number f < 16
fault_number_few Length = lit< tt
fault_number_few (Record n) = lit< tt

-- the value beside it
abbrev pub fault_value : Fault → ℕ
fault_value Length = 0
fault_value (Record n) = n

-- refused, whatever was asked
abbrev pub fault_meaning : {A : Type 0} → Fault → Answer A
fault_meaning f = refused (fault_number f) (fault_value f)

-- what a call that takes one listing returned
abbrev pub listing_answer : {A : Type 0} → Result A Fault → Answer A
listing_answer (Ok a) = result a
listing_answer (Err f) = fault_meaning f
