-- Claimed: the agreement of rod and logger on a compiled listing, by the definitions alone. Proved in proofs/Demand3.antt.
use Rattle.std.specs.Prelude.{ℕ, Bool, List, ◌≡◌, length}
use Rattle.answers.specs.Answers.{result, on_result}
use Rattle.rod.specs.Reading.{rod_answer}
use Rattle.score.specs.Decisions.{scored_answer}
use Rattle.compiler.specs.Compiling.{compiled, returned, left_by, compiled_listing}
use Rattle.agreement.specs.CompiledReading.{compiled_reading}

-- where compiling returns n records, the rod's answer on the compiled listing and the logger's on the book are one yes or no
abbrev pub CompiledAgreement : Type 0
CompiledAgreement =
    (bytes : List ℕ) (number set n : ℕ) (lent : List ℕ) → returned (compiled bytes number (length lent)) ≡ result n
    → (yes : Bool)
    × (rod_answer (compiled_listing n (left_by bytes number lent)) set ≡ result yes)
    × (scored_answer bytes number set ≡ result yes)

-- so `agreement::compile_and_read` gives compiling's refusal, or the logger's answer
abbrev pub ReadingAgreement : Type 0
ReadingAgreement =
    (bytes : List ℕ) (number set : ℕ) (lent : List ℕ)
    → compiled_reading bytes number set lent ≡ on_result (returned (compiled bytes number (length lent))) (λ n. scored_answer bytes number set)
