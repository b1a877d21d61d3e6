-- Claimed: a compiled listing is sound. Proved in proofs/Demand3.antt.
use Rattle.std.specs.Prelude.{ℕ, List, ◌≡◌, length}
use Rattle.answers.specs.Answers.{result}
use Rattle.layout.specs.Judgement.{verdict}
use Rattle.compiler.specs.Compiling.{compiled, returned, left_by, compiled_listing}

-- where compiling returns n records, the words that it left for them are judged sound: no call declines them
abbrev pub CompiledSound : Type 0
CompiledSound =
    (bytes : List ℕ) (number n : ℕ) (lent : List ℕ) → returned (compiled bytes number (length lent)) ≡ result n
    → verdict (compiled_listing n (left_by bytes number lent)) ≡ result tt
