-- Claimed: a traverse answers as single calls do, one for each set in their order. Proved in proofs/SingleCalls.antt.
use Rattle.std.specs.Prelude.{ℕ, List, map, ◌↔◌, ◌≡◌, length}
use Rattle.answers.specs.Answers.{Answer, result, refused, on_result}
use Rattle.layout.specs.Records.{one_if}
use Rattle.rod.specs.Reading.{rod_answer}
use Rattle.rod.specs.Traversing.{traversed}

-- the answer of a single call, as a traverse writes it: 1 for yes, 0 for no
unfoldable pub single_answer : List ℕ → ℕ → Answer ℕ
single_answer ws set = on_result (rod_answer ws set) (λ yes. result (one_if yes))

pub record SingleCalls : Type 0 where
  -- where a traverse is answered, single calls on its sets refuse nothing, and theirs are the answers, in that order
  pub answered : (ws sets lent answers : List ℕ) → traversed ws sets lent ≡ result answers
      → map (single_answer ws) sets ≡ map result answers
  -- with equally long slices, empty ones too, a traverse declines the listing exactly as a single call does on any set
  pub declined : (ws sets lent : List ℕ) (set number value : ℕ) → length sets ≡ length lent
      → (traversed ws sets lent ≡ refused number value) ↔ (rod_answer ws set ≡ refused number value)
