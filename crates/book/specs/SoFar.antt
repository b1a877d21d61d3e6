-- What every book so far keeps to, and what the code has of it.
use Rattle.std.specs.Prelude.{ℕ, ◌≤◌, ◌<◌, true, List, ◌≡◌, ℤ, length}
use Rattle.arith.specs.Members.{Each}
use Rattle.peal.specs.Policies.{Condition, Book}
use Rattle.peal.specs.declared.Sense.{Sense}
use Rattle.text.specs.Codes.{code_cells, expression_of}
use Rattle.text.specs.declared.expressions.Code.{Code}
use Rattle.text.specs.declared.expressions.Code.TheVariants.{Min, Max, Policy}
use Rattle.book.specs.Acceptance.{BookSoFar}
use Rattle.book.specs.Ranges.{BookInRange}
use Rattle.book.specs.declared.acceptance.SoFar.{SoFar}

-- what every book so far keeps to: the ranges, and a policy to add rules to where rules may follow
pub record Bounded (so_far : BookSoFar) : Type 0 where
  pub range : BookInRange so_far.book
  pub some : so_far.in_rules ≡ true → 0 < length so_far.book.policies

-- the book so far: the book, and what the lines leave beside it
abbrev pub so_far_of : Book → SoFar → BookSoFar
so_far_of b state = record { book = b; in_rules = state.in_rules; old_zero = state.old_zero }

-- the condition whose expression has these codes
abbrev pub condition_of : Sense → ℤ → List (Code ℕ) → Condition
condition_of c t codes = record { sense = c; threshold = t; expression = expression_of codes }

-- the code of a join, or of one of the policies that a book may have
abbrev pub SmallCode : Code ℕ → Type 0
SmallCode Min = Unit {0}
SmallCode Max = Unit {0}
SmallCode (Policy k) = k < 16

-- the codes can be kept: they have room, and mention those policies alone
pub record CanKeep (codes : List (Code ℕ)) : Type 0 where
  pub few : length codes ≤ code_cells
  pub small : Each SmallCode codes
