-- What the answers of the code mean, by document 01's numbers.
use Rattle.std.specs.Prelude.{ℕ, ◌<◌, List, ◌≡◌, Result, Ok, Err, length}
use Rattle.std.proofs.Common.{lit<}
use Rattle.answers.specs.Answers.{Answer, result, refused}
use Rattle.book.specs.Meaning.{declined_number, declined_number_few, declined_value}
use Rattle.compiler.specs.Compiling.{compiled, returned, left_by}
use Rattle.compiler.specs.declared.CompileError.{CompileError}
use Rattle.compiler.specs.declared.CompileError.TheVariants.{Declined, NoRoom}

-- the number of what compiling is refused for: that of what declines the condition, or 8
abbrev pub error_number : CompileError → ℕ
error_number (Declined d) = declined_number d
error_number NoRoom = 8

-- which has room in a call for C
pub error_number_few : (e : CompileError) → error_number e < 16
error_number_few (Declined d) = declined_number_few d
error_number_few NoRoom = lit< tt

-- the value beside it
abbrev pub error_value : CompileError → ℕ
error_value (Declined d) = declined_value d
error_value NoRoom = 0

-- the answer of `compiler::compile`
abbrev pub compiled_meaning : Result ℕ CompileError → Answer ℕ
compiled_meaning (Ok n) = result n
compiled_meaning (Err e) = refused (error_number e) (error_value e)

-- what `compiler::compile` promises: of this book and condition, with these words lent, it left these words and returned this answer
pub record CompilingRan (bytes : List ℕ) (number : ℕ) (lent left : List ℕ) (answer : Result ℕ CompileError) : Type 0 where
  pub returning : compiled_meaning answer ≡ returned (compiled bytes number (length lent))
  pub leaving : left ≡ left_by bytes number lent
