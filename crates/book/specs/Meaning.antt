-- What the answers of the code mean, by document 01's numbers.
use Rattle.std.specs.Fmt.{decimal}
use Rattle.std.specs.Prelude.{ℕ, ◌<◌, Result, Ok, Err, List, ◌++◌, codes}
use Rattle.std.proofs.Common.{lit<}
use Rattle.answers.specs.Answers.{Answer, result, refused}
use Rattle.book.specs.Books.{Counts}
use Rattle.book.specs.declared.Counts.{Counts as Told}
use Rattle.book.specs.declared.Reason.{Reason}
use Rattle.book.specs.declared.Reason.TheVariants.{TooLong, NoForm, OutOfPlace, TooMany, OutOfRange, Repeated}
use Rattle.book.specs.declared.Refusal.{Refusal}
use Rattle.book.specs.declared.Declined.{Declined}
use Rattle.book.specs.declared.Declined.TheVariants.{Refused, NoCondition}

-- the number of a reason
abbrev pub reason_number : Reason → ℕ
reason_number TooLong = 1
reason_number NoForm = 2
reason_number OutOfPlace = 3
reason_number TooMany = 4
reason_number OutOfRange = 5
reason_number Repeated = 6

-- the number of a refused book; the value beside it is the line
abbrev pub refusal_number : Refusal → ℕ
refusal_number r = reason_number r.reason

abbrev pub refusal_value : Refusal → ℕ
refusal_value r = r.line

-- the number of what declines: that of the book's refusal, or 7
abbrev pub declined_number : Declined → ℕ
declined_number (Refused r) = refusal_number r
declined_number NoCondition = 7

-- the value beside it
abbrev pub declined_value : Declined → ℕ
declined_value (Refused r) = refusal_value r
declined_value NoCondition = 0

-- these numbers have room in a call for C
pub reason_number_few : (r : Reason) → reason_number r < 16
reason_number_few TooLong = lit< tt
reason_number_few NoForm = lit< tt
reason_number_few OutOfPlace = lit< tt
reason_number_few TooMany = lit< tt
reason_number_few OutOfRange = lit< tt
reason_number_few Repeated = lit< tt

pub declined_number_few : (d : Declined) → declined_number d < 16
declined_number_few (Refused r) = reason_number_few r.reason
declined_number_few NoCondition = lit< tt

-- refused, whatever was asked of the book
abbrev pub refusal_meaning : {A : Type 0} → Refusal → Answer A
refusal_meaning r = refused (refusal_number r) (refusal_value r)

-- declined, whatever was asked of the condition
abbrev pub declined_meaning : {A : Type 0} → Declined → Answer A
declined_meaning d = refused (declined_number d) (declined_value d)

-- what a call that asks for a condition of a book returned
abbrev pub condition_answer : {A : Type 0} → Result A Declined → Answer A
condition_answer (Ok a) = result a
condition_answer (Err d) = declined_meaning d

-- the answer of `book::check`
abbrev pub checked_meaning : Result Told Refusal → Answer Counts
checked_meaning (Ok n) = result (record { policies = n.policies; conditions = n.conditions })
checked_meaning (Err r) = refusal_meaning r

-- the counts as programs print them
abbrev pub counts_text : Told → List ℕ
counts_text n = codes "accepted " ++ decimal n.policies ++ codes " " ++ decimal n.conditions
