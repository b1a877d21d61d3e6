-- What the readers of an expression answer, and what they add to the codes. A place is a number of bytes of the line.
use Rattle.std.specs.Prelude.{ℕ, Bool, true, false, ◌+◌, ◌*◌, ◌≤◌, ◌<◌, ◌≡◌, List, ◌++◌, length, drop, Some, None}
use Rattle.std.specs.Prelude
use Rattle.std.proofs.Math.Option.{Option, none, some}
use Rattle.arrayvec.specs.ArrayVec.{ArrayVec}
use Rattle.arith.specs.Trees.{joining, leaf}
use Rattle.peal.specs.Policies.{MinMax, Expression}
use Rattle.text.specs.Expressions.{mention, leading_join, leading_expression, leading_pair, expression}
use Rattle.text.specs.Codes.{code_of, codes_of}
use Rattle.text.specs.LineMeaning.{fewest_before}
use Rattle.text.specs.declared.expressions.Code.{Code}

-- before reading at a place of a line of at most 128 bytes, with n codes so far: after the fewest bytes and 4 for each
-- code, so that the room for codes is enough
pub record CanRead (line : List ℕ) (at n : ℕ) : Type 0 where
  pub short : length line ≤ 128
  pub within : at ≤ length line
  pub room : 4 * n + fewest_before ≤ at

-- after reading up to `end`: the codes added to those so far; each code took 4 bytes, all together up to `slack` fewer
pub record HasRead (line : List ℕ) (at : ℕ) (before : List (Code ℕ)) (end : ℕ) (codes added : List (Code ℕ)) (slack : ℕ)
    : Type 0 where
  pub within : end ≤ length line
  pub forward : at < end
  pub room : 4 * length codes + at ≤ 4 * length before + end + slack
  pub same : codes ≡ before ++ added

-- what reading `min` or `max` at the front of s promises
unfoldable pub JoinRead : List ℕ → Prelude.Option (Code ℕ) → Type 0
JoinRead s (Some code) = (m : MinMax) × (leading_join s ≡ some m) × (code ≡ code_of (joining m))
JoinRead s None = leading_join s ≡ none

-- a policy number was read at a place
pub record PolicyRead (line : List ℕ) (at : ℕ) (before : List (Code ℕ)) (end : ℕ) (codes : List (Code ℕ)) : Type 0 where
  pub policy : ℕ
  pub found : mention (drop at line) ≡ some (leaf policy, drop end line)
  pub read : HasRead line at before end codes (codes_of (leaf policy)) 3

-- what reading a policy number at a place promises
unfoldable pub MentionRead : List ℕ → ℕ → List (Code ℕ) → Prelude.Option ℕ → List (Code ℕ) → Type 0
MentionRead line at before (Some end) codes = PolicyRead line at before end codes
MentionRead line at before None codes = mention (drop at line) ≡ none

-- what the definition says of an expression at a place, at every bound of the nesting that is enough for what is unread
abbrev pub Leads : List ℕ → ℕ → Option (Expression × List ℕ) → Type 0
Leads line at o = (k : ℕ) → length line ≤ k + at → leading_expression k (drop at line) ≡ o

-- an expression was read at a place
pub record TreeRead (line : List ℕ) (at : ℕ) (before : List (Code ℕ)) (end : ℕ) (codes : List (Code ℕ)) : Type 0 where
  pub tree : Expression
  pub found : Leads line at (some (tree, drop end line))
  pub read : HasRead line at before end codes (codes_of tree) 2

-- what reading an expression at a place promises
unfoldable pub LeadingRead : List ℕ → ℕ → List (Code ℕ) → Prelude.Option ℕ → List (Code ℕ) → Type 0
LeadingRead line at before (Some end) codes = TreeRead line at before end codes
LeadingRead line at before None codes = Leads line at none

-- the same three for a pair
abbrev pub PairLeads : List ℕ → ℕ → Option (Expression × Expression × List ℕ) → Type 0
PairLeads line at o = (k : ℕ) → length line ≤ k + at → leading_pair k (drop at line) ≡ o

pub record TwoRead (line : List ℕ) (at : ℕ) (before : List (Code ℕ)) (end : ℕ) (codes : List (Code ℕ)) : Type 0 where
  pub left : Expression
  pub right : Expression
  pub found : PairLeads line at (some (left, right, drop end line))
  pub read : HasRead line at before end codes (codes_of left ++ codes_of right) 1

unfoldable pub PairRead : List ℕ → ℕ → List (Code ℕ) → Prelude.Option ℕ → List (Code ℕ) → Type 0
PairRead line at before (Some end) codes = TwoRead line at before end codes
PairRead line at before None codes = PairLeads line at none

-- an expression was read from a place to the line's end, and these are its codes
pub record WholeRead (line : List ℕ) (at : ℕ) (codes : List (Code ℕ)) : Type 0 where
  pub tree : Expression
  pub found : expression (drop at line) ≡ some tree
  pub same : codes ≡ codes_of tree

-- what reading an expression from a place to the line's end promises, where the codes were lent
unfoldable pub CodesRead : List ℕ → ℕ → Bool → List (Code ℕ) → Type 0
CodesRead line at true codes = WholeRead line at codes
CodesRead line at false codes = expression (drop at line) ≡ none

-- what reading an expression from a place to the line's end promises
unfoldable pub ExpressionRead : List ℕ → ℕ → Prelude.Option (ArrayVec (Code ℕ)) → Type 0
ExpressionRead line at (Some codes) = WholeRead line at codes.items
ExpressionRead line at None = expression (drop at line) ≡ none
