-- What rod and logger say of a condition just compiled: one thing, the decision by the scores.
use Rattle.std.specs.Prelude.{ℕ, Bool, List, Result, Ok, Err, length}
use Rattle.answers.specs.Answers.{Answer, result, refused, on_result}
use Rattle.layout.specs.Meaning.{listing_answer}
use Rattle.peal.specs.Score.{decision}
use Rattle.translation.specs.Translation.{listing_records}
use Rattle.book.specs.Books.{asked}
use Rattle.book.specs.Meaning.{condition_answer}
use Rattle.compiler.specs.Compiling.{fitting, compiled_listing}
use Rattle.compiler.specs.Meaning.{error_number, error_value}
use Rattle.compiler.specs.declared.CompileError.{CompileError}
use Rattle.agreement.specs.Demand3.{SaySame, MinimalListing}
use Rattle.agreement.specs.declared.Both.{Both}

-- how many records were compiled, and what each answered
pub record Sayings : Type 0 where
  pub records : ℕ
  pub rod : Answer Bool
  pub logger : Answer Bool

-- the answer of `agreement::ask_both`
abbrev pub both_meaning : Result Both CompileError → Answer Sayings
both_meaning (Ok b) = result (record { records = b.records; rod = listing_answer b.rod; logger = condition_answer b.logger })
both_meaning (Err e) = refused (error_number e) (error_value e)

-- refusals 1 to 8; else neither refuses, and both say what the scores say
unfoldable pub both_say : List ℕ → ℕ → ℕ → ℕ → Answer Sayings
both_say bytes number set lent =
    on_result (asked bytes number) (λ (b, c).
    on_result (fitting lent (listing_records b c)) (λ rs.
    let said : Answer Bool = result (decision b.policies c set) in
    result (record { records = length rs; rod = said; logger = said })))

-- demand 3 of one set, of what was returned and left
abbrev pub Held : List ℕ → ℕ → List ℕ → Result Both CompileError → Type 0
Held bytes number left (Ok b) = SaySame b.rod b.logger × MinimalListing bytes number (compiled_listing b.records left)
Held bytes number left (Err e) = Unit {0}
