-- The rod's reading of a condition just compiled, by what compiling returned.
use Prim.Native.Nat.{ℕ}
use mathlib.Core.Bool.{Bool}
use mathlib.Core.List.{List}
use mathlib.Core.Path.{◌≡◌, ap, ◌∙◌}
use lib.ListN.{length}
use Rattle.answers.specs.Answers.{Answer, result, on_result}
use Rattle.rod.specs.Reading.{rod_answer}
use Rattle.compiler.specs.Compiling.{compiled, returned, left_by, compiled_listing}
use Rattle.agreement.specs.CompiledReading.{compiled_reading}

module _ (bytes : List ℕ) (number set : ℕ) (lent : List ℕ) where
  -- what the rod says of n records
  abbrev said : ℕ → Answer Bool
  said n = rod_answer (compiled_listing n (left_by bytes number lent)) set

  pub reading-by : (a : Answer ℕ) → a ≡ returned (compiled bytes number (length lent)) → on_result a said ≡ compiled_reading bytes number set lent
  unfolding compiled_reading
  reading-by a e = ap (λ (a : Answer ℕ). on_result a said) e

  -- what the rod said of the words that were left
  pub reading-of : (n : ℕ) {left : List ℕ} → result n ≡ returned (compiled bytes number (length lent)) → left ≡ left_by bytes number lent
      → rod_answer (compiled_listing n left) set ≡ compiled_reading bytes number set lent
  reading-of n e f = ap (λ (ws : List ℕ). rod_answer (compiled_listing n ws) set) f ∙ reading-by (result n) e
