-- The rod's reading of a condition just compiled.
use Rattle.std.specs.Prelude.{ℕ, Bool, List, length}
use Rattle.answers.specs.Answers.{Answer, on_result}
use Rattle.rod.specs.Reading.{rod_answer}
use Rattle.compiler.specs.Compiling.{compiled, returned, left_by, compiled_listing}

-- compiling's refusal, or what the rod says of the compiled listing
unfoldable pub compiled_reading : List ℕ → ℕ → ℕ → List ℕ → Answer Bool
compiled_reading bytes number set lent =
    on_result (returned (compiled bytes number (length lent))) (λ n. rod_answer (compiled_listing n (left_by bytes number lent)) set)
