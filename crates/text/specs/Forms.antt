-- The forms of a line (document 01, "The book": `p OP D`, `p OP`, `r S V`, `c T < E`, `c T >= E`; change request 1: `x A B`; 2: `o`).
use Rattle.std.specs.Prelude.{ℕ, cond, List, [], ◌∷◌, ℤ}
use Rattle.std.proofs.Math.Option.{Option, none, some}
use Rattle.arith.specs.Options.{◌>>=◌, if◌then◌}
use Rattle.peal.specs.Policies.{Expression}
use Rattle.peal.specs.declared.Operator.{Operator}
use Rattle.peal.specs.declared.Operator.TheVariants.{Min, Max, Sum, Mul}
use Rattle.peal.specs.declared.Sense.{Sense}
use Rattle.peal.specs.declared.Sense.TheVariants.{Above, AtMost}
use Rattle.text.specs.Text.{bytes, is, fields}
use Rattle.text.specs.Numbers.{natural, number}
use Rattle.text.specs.Expressions.{expression}

-- what a line says
pub data Form : Type 0 where
  -- `o`
  old_zero : Form
  -- `p OP D`, or `p OP` with no default given
  policy : Operator → Option ℤ → Form
  -- `r S V`
  rule : ℕ → ℤ → Form
  -- `x A B`
  exclusion : (a b : ℕ) → Form
  -- `c T < E`, `c T >= E`
  condition : Sense → ℤ → Expression → Form

-- OP is `min`, `max`, `sum` or `mul`
unfoldable pub operator_word : Operator → List ℕ
operator_word Min = bytes "min"
operator_word Max = bytes "max"
operator_word Sum = bytes "sum"
operator_word Mul = bytes "mul"

-- the operator that a field spells
unfoldable pub operator : List ℕ → Option Operator
operator f =
    cond (is (operator_word Min) f) (some Min)
    (cond (is (operator_word Max) f) (some Max)
    (cond (is (operator_word Sum) f) (some Sum)
    (if is (operator_word Mul) f then some Mul)))

-- `<`: T is less than E; `>=`: E is at most T
unfoldable pub sense_word : Sense → List ℕ
sense_word Above = bytes "<"
sense_word AtMost = bytes ">="

-- the sense that a field spells
unfoldable pub sense : List ℕ → Option Sense
sense f = cond (is (sense_word Above) f) (some Above) (if is (sense_word AtMost) f then some AtMost)

-- the form by the fields: `o`; `p OP`; `p OP D`, `r S V` or `x A B`; `c T < E` or `c T >= E`
unfoldable pub form_of : List (List ℕ) → Option Form
form_of [] = none
form_of (k ∷ []) = if is (bytes "o") k then some old_zero
form_of (k ∷ o ∷ []) = if is (bytes "p") k then do some (policy (← operator o) none)
form_of (k ∷ a ∷ b ∷ []) =
    cond (is (bytes "p") k) (do some (policy (← operator a) (some (← number b))))
    (cond (is (bytes "r") k) (do some (rule (← natural a) (← number b)))
    (if is (bytes "x") k then do some (exclusion (← natural a) (← natural b))))
form_of (k ∷ t ∷ c ∷ e ∷ []) = if is (bytes "c") k then do threshold ← number t; some (condition (← sense c) threshold (← expression e))
form_of (k ∷ a ∷ b ∷ e ∷ f ∷ fs) = none

-- the form of a line's bytes; nothing where it has none
unfoldable pub form : List ℕ → Option Form
form s = form_of (fields s)
