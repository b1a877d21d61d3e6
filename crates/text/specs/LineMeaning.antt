-- What the reader of a line answers.
use Rattle.std.specs.Prelude
use Rattle.std.specs.Prelude.{ℕ, suc, ◌+◌, ◌≤◌, ◌<◌, List, [], ◌∷◌, ◌≡◌, length, drop, Some, None}
use Rattle.std.proofs.Math.Option.{Option, none, some}
use Rattle.arith.specs.Options.{◌>>=◌}
use Rattle.text.specs.Text.{fields}
use Rattle.text.specs.Expressions.{expression}
use Rattle.text.specs.Forms.{Form, old_zero, policy, rule, exclusion, condition, form_of}
use Rattle.text.specs.declared.lines.Line.TheVariants.{Policy, BarePolicy, Rule, Condition, Exclusion, OldZero}
use Rattle.text.specs.declared.lines.Line.{Line}

-- the form that was read; a condition's expression is what stands from its place on
abbrev pub line_meaning : List ℕ → Prelude.Option Line → Option Form
line_meaning line (Some OldZero) = some old_zero
line_meaning line (Some (Policy o d)) = some (policy o (some d))
line_meaning line (Some (BarePolicy o)) = some (policy o none)
line_meaning line (Some (Rule s v)) = some (rule s v)
line_meaning line (Some (Exclusion a b)) = some (exclusion a b)
line_meaning line (Some (Condition c t i)) = do
  e ← expression (drop i line)
  some (condition c t e)
line_meaning line None = none

-- the fewest bytes before a condition's expression: `c`, T and the sense, and a space after each
abbrev pub fewest_before : ℕ
fewest_before = 6

-- a condition's expression begins in the line, after that many bytes
abbrev pub StartIn : List ℕ → Prelude.Option Line → Type 0
StartIn line (Some OldZero) = Unit {0}
StartIn line (Some (Policy o d)) = Unit {0}
StartIn line (Some (BarePolicy o)) = Unit {0}
StartIn line (Some (Rule s v)) = Unit {0}
StartIn line (Some (Exclusion a b)) = Unit {0}
StartIn line (Some (Condition c t i)) = (fewest_before ≤ i) × (i ≤ length line)
StartIn line None = Unit {0}

-- what was read of a line is this form
abbrev pub Means : List ℕ → Prelude.Option Line → Option Form → Type 0
Means line r o = (line_meaning line r ≡ o) × StartIn line r

-- the same, whichever line it was
abbrev pub MeansAnywhere : Prelude.Option Line → Option Form → Type 0
MeansAnywhere r o = (line : List ℕ) → Means line r o

-- the form of four fields was read, of which the fourth stands from a place on: after the three and a space after each
abbrev pub FourMean : (kind second third : List ℕ) → ℕ → Prelude.Option Line → Type 0
FourMean kind second third from r =
    (line : List ℕ) → 3 + length kind + length second + length third ≤ from → from ≤ length line
    → Means line r (form_of (kind ∷ second ∷ third ∷ drop from line ∷ []))

-- the first field of a line, and the bytes of the others, which a space parts from it
pub record FirstField (line field rest : List ℕ) : Type 0 where
  pub more : length field < length line
  pub after : rest ≡ drop (suc (length field)) line
  pub parts : fields line ≡ field ∷ fields rest
