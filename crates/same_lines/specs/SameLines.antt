-- Claimed: same lines, same policy (change request 12). Proved in proofs/SameLines.antt.
use Rattle.std.specs.Prelude.{ℕ, ◌≤◌, ◌<◌, cond, ◌↔◌, ◌⊎◌, ◌≡◌, Result, Ok}
use mathlib.Core.List.{List, [], ◌∷◌, Permᴰ}
use Rattle.arith.specs.Trees.{value}
use Rattle.layout.specs.Records.{records, policy_kind}
use Rattle.layout.specs.Nodes.{ListedPolicy, nodes, excluded}
use Rattle.rod.specs.Reading.{rod_answer}
use Rattle.checks.specs.Checks.{Which, first, second, differ, comparison}
use Rattle.checks.specs.Meaning.{comparison_meaning}
use Rattle.checks.specs.declared.Comparison.{Comparison}
use Rattle.checks.specs.declared.Comparison.TheVariants.{Alike}
use Rattle.checks.specs.declared.CompareError.{CompareError}
use Rattle.arith.specs.Members.{Among}
use Rattle.compiler.specs.Compiling.{compiled_listing}
use Rattle.compiler.specs.Meaning.{CompilingRan}

-- ---- two compiled listings of one policy each

-- `compiler::compile` returned so many records for a condition of a book; the listing is the words that it left for
-- them, and its one node is the policy
pub record OnePolicy (listing : List ℕ) (policy : ListedPolicy) : Type 0 where
  pub bytes : List ℕ
  pub number : ℕ
  pub lent : List ℕ
  pub left : List ℕ
  pub count : ℕ
  pub compiling : CompilingRan bytes number lent left (Ok count)
  pub listed : listing ≡ compiled_listing count left
  pub one : nodes (records listing) ≡ value policy ∷ []

-- equal kind
abbrev pub SameKind : ListedPolicy → ListedPolicy → Type 0
SameKind p q = policy_kind p.quiet p.turned ≡ policy_kind q.quiet q.turned

-- equal mask
abbrev pub SameMask : ListedPolicy → ListedPolicy → Type 0
SameMask p q = p.mask ≡ q.mask

-- equal kind and mask
abbrev pub SameKindAndMask : ListedPolicy → ListedPolicy → Type 0
SameKindAndMask p q = SameKind p q × SameMask p q

-- equal kind 16 or 19: with none of its signals a policy says what it says where no line is complete
abbrev pub SamePlainKind : ListedPolicy → ListedPolicy → Type 0
SamePlainKind p q = SameKind p q × (p.quiet ≡ p.turned)

-- without exclusions
abbrev pub NoExclusions : List ℕ → Type 0
NoExclusions listing = excluded (records listing) ≡ []

-- two compiled listings of one policy each, of any books, conditions and operators; `Equal` holds of the policies
pub record TwoPolicies (Equal : ListedPolicy → ListedPolicy → Type 0) (one two : List ℕ) (p q : ListedPolicy)
    : Type 0 where
  pub first : OnePolicy one p
  pub second : OnePolicy two q
  pub equal : Equal p q

-- ---- their lines

-- the same lines, order aside
abbrev pub SameLines : ListedPolicy → ListedPolicy → Type 0
SameLines p q = Permᴰ p.lines q.lines

-- a line of the one that is none of the other
abbrev pub AloneIn : ListedPolicy → ListedPolicy → ℕ → Type 0
AloneIn p q line = Among line p.lines × (Among line q.lines → ⊥)

-- a line that only one of them has
abbrev pub OfOneAlone : ListedPolicy → ListedPolicy → ℕ → Type 0
OfOneAlone p q line = AloneIn p q line ⊎ AloneIn q p line

-- the lowest of these
abbrev pub LowestOfOneAlone : ListedPolicy → ListedPolicy → ℕ → Type 0
LowestOfOneAlone p q line = OfOneAlone p q line × ((other : ℕ) → OfOneAlone p q other → line ≤ other)

-- ---- their decisions

-- the rod answers the same by both on a signal set
abbrev pub AlikeOn : List ℕ → List ℕ → ℕ → Type 0
AlikeOn one two set = rod_answer one set ≡ rod_answer two set

-- on every signal set, all 65,536
abbrev pub DecideAlike : List ℕ → List ℕ → Type 0
DecideAlike one two = (set : ℕ) → set ≤ 65535 → AlikeOn one two set

-- the lowest set on which it does not
abbrev pub LowestApart : List ℕ → List ℕ → ℕ → Type 0
LowestApart one two set = (AlikeOn one two set → ⊥) × ((lower : ℕ) → lower < set → AlikeOn one two lower)

-- `checks::compare`, handed the two, returned this answer
abbrev pub Compared : List ℕ → List ℕ → Result Comparison CompareError → Type 0
Compared one two answer = comparison_meaning answer ≡ comparison one two

-- the other of the two
abbrev pub other_of : Which → Which
other_of first = second
other_of second = first

-- a line that only the first has, or only the second
abbrev pub AloneOf : ListedPolicy → ListedPolicy → Which → ℕ → Type 0
AloneOf p q first line = AloneIn p q line
AloneOf p q second line = AloneIn q p line

-- an answer that names the lowest line that only one of them has; that one says yes there, or no if it is turned
pub record NamesLine (p q : ListedPolicy) (answer : Result Comparison CompareError) : Type 0 where
  pub set : ℕ
  pub yes : Which
  pub told : comparison_meaning answer ≡ differ set yes
  pub lowest : LowestOfOneAlone p q set
  pub has : AloneOf p q (cond p.turned (other_of yes) yes) set

-- ---- the claim

-- where `Equal` holds of the policies: they decide alike exactly when they have the same lines, exclusions or not
abbrev pub DecisionsTellLines : (ListedPolicy → ListedPolicy → Type 0) → Type 0
DecisionsTellLines Equal =
    (one two : List ℕ) (p q : ListedPolicy) → TwoPolicies Equal one two p q → DecideAlike one two ↔ SameLines p q

-- where besides `First` holds of the one listing and `Second` of the other: the comparison says "alike" exactly then
abbrev pub ComparisonTellsLines : (ListedPolicy → ListedPolicy → Type 0) → (First Second : List ℕ → Type 0) → Type 0
ComparisonTellsLines Equal First Second =
    (one two : List ℕ) (p q : ListedPolicy) → TwoPolicies Equal one two p q → First one → Second two
    → (answer : Result Comparison CompareError) → Compared one two answer → (answer ≡ Ok Alike) ↔ SameLines p q

-- what the lines of two such policies tell
pub record LinesTell (Equal : ListedPolicy → ListedPolicy → Type 0) : Type 0 where
  -- to decide alike on every signal set is to have the same lines, order aside
  pub decided : DecisionsTellLines Equal
  -- a set is the lowest on which they do not decide alike exactly if it is the lowest line that only one of them has
  pub lowest : (one two : List ℕ) (p q : ListedPolicy) → TwoPolicies Equal one two p q
      → (set : ℕ) → LowestApart one two set ↔ LowestOfOneAlone p q set
  -- without exclusions the comparison says "alike" exactly when they have the same lines
  pub compared : ComparisonTellsLines Equal NoExclusions NoExclusions
  -- and otherwise names the lowest line that only one of them has
  pub named : (one two : List ℕ) (p q : ListedPolicy) → TwoPolicies Equal one two p q
      → NoExclusions one → NoExclusions two
      → (answer : Result Comparison CompareError) → Compared one two answer
      → (answer ≡ Ok Alike → ⊥) → NamesLine p q answer

-- same lines, same policy
pub record SameLinesSamePolicy : Type 0 where
  -- with equal kind and mask
  pub equal_mask : LinesTell SameKindAndMask
  -- with equal kind 16 or 19, whatever the masks
  pub any_mask : LinesTell SamePlainKind
