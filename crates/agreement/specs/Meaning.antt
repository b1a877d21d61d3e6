-- What the answers of the code mean, by document 01's numbers.
use Rattle.std.specs.Prelude.{Bool, Result, Ok, Err}
use Rattle.answers.specs.Answers.{Answer, refused}
use Rattle.layout.specs.Meaning.{listing_answer}
use Rattle.layout.specs.declared.Fault.{Fault}
use Rattle.compiler.specs.Meaning.{error_number, error_value}
use Rattle.compiler.specs.declared.CompileError.{CompileError}

-- the answer of `agreement::compile_and_read`
abbrev pub reading_meaning : Result (Result Bool Fault) CompileError → Answer Bool
reading_meaning (Ok rod) = listing_answer rod
reading_meaning (Err e) = refused (error_number e) (error_value e)
