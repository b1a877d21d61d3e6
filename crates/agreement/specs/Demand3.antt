-- Claimed: demand 3, of the calls as they run. Proved in proofs/Demand3.antt.
use Rattle.std.specs.Prelude.{ℕ, ◌≤◌, ◌<◌, ◌↔◌, ◌≡◌, Bool, true, false, ℤ, length, Result, Ok}
use mathlib.Core.List.{List, map, Forall₂}
use Rattle.arith.specs.Members.{Among, Distinct}
use Rattle.arith.specs.Trees.{Node, value, joining, postfix}
use Rattle.answers.specs.Answers.{result}
use Rattle.layout.specs.Records.{words, records}
use Rattle.layout.specs.Nodes.{ListedNode, nodes, excluded}
use Rattle.layout.specs.Meaning.{listing_answer}
use Rattle.layout.specs.declared.Fault.{Fault}
use Rattle.rod.specs.Reading.{rod_answer}
use Rattle.rod.specs.Meaning.{TraverseRan}
use Rattle.rod.specs.declared.TraverseError.{TraverseError}
use Rattle.peal.specs.Policies.{Policy, MinMax, Condition, Book, policy_at, mask_of}
use Rattle.peal.specs.Lines.{minimal_sets, has}
use Rattle.translation.specs.Translation.{join_of, pair_mask, listing_records}
use Rattle.book.specs.Books.{asked}
use Rattle.book.specs.Meaning.{condition_answer}
use Rattle.book.specs.declared.Declined.{Declined}
use Rattle.score.specs.Decisions.{scored_answer}
use Rattle.compiler.specs.Compiling.{compiled_listing}
use Rattle.compiler.specs.Meaning.{CompilingRan}
use Rattle.compiler.specs.declared.CompileError.{CompileError}

-- an accepted book, a condition in it, and lent words that its listing fits
pub record ListingFits (bytes : List ℕ) (number : ℕ) (lent : List ℕ) : Type 0 where
  pub book : Book
  pub condition : Condition
  pub of_book : asked bytes number ≡ result (book, condition)
  pub fits : length (words (listing_records book condition)) ≤ length lent

-- ---- the calls, each by its promise about what it returned: of compiling `CompilingRan`, of a traverse `TraverseRan`

-- neither refuses, and the rod says yes exactly if the logger does
pub data SaySame : Result Bool Fault → Result Bool Declined → Type 0 where
  both_yes : SaySame (Ok true) (Ok true)
  both_no : SaySame (Ok false) (Ok false)

-- an answer as a traverse writes it, and the logger's: 1 with yes, 0 with no
pub data WrittenFor : ℕ → Result Bool Declined → Type 0 where
  one_yes : WrittenFor 1 (Ok true)
  zero_no : WrittenFor 0 (Ok false)

-- what is written for a set is what `score::decide` returned for it, and that was no refusal
abbrev pub AsLogger : List ℕ → (number set written : ℕ) → Type 0
AsLogger bytes number set written = (logger : Result Bool Declined) → condition_answer logger ≡ scored_answer bytes number set → WrittenFor written logger

-- a traverse refused nothing, and left for each set, in their order, what the logger says
pub record TraverseSays (bytes : List ℕ) (number : ℕ) (sets : List ℕ) (returned : Result ℕ TraverseError) (left : List ℕ) : Type 0 where
  pub all : returned ≡ Ok (length sets)
  pub each : Forall₂ (AsLogger bytes number) sets left

-- the lines are exactly the masks of the minimal non-empty sets of the policy's rules, by the property `has` of its operator, each once
pub record MinimalMasks (p : Policy) (t : ℤ) (lines : List ℕ) : Type 0 where
  pub exactly : (line : ℕ) → Among line lines ↔ Among line (map mask_of (minimal_sets (has p.operator t) p.rules))
  pub once : Distinct lines
  -- so each demands a signal
  pub demands : (line : ℕ) → Among line lines → 0 < line

-- what stands in a listing for a node of the expression: for a mention a policy with its minimal sets, for min and max an "and" or "or"
abbrev pub StandsFor : List Policy → Condition → Node MinMax ℕ → ListedNode → Type 0
StandsFor ps c (value n) (value r) = MinimalMasks (policy_at ps n) c.threshold r.lines
StandsFor ps c (value n) (joining j) = ⊥
StandsFor ps c (joining m) (value r) = ⊥
StandsFor ps c (joining m) (joining j) = j ≡ join_of c.sense m

-- the nodes of a listing, as the rod reads them, stand one by one for those of the condition in the order left, right, join
pub record MinimalListing (bytes : List ℕ) (number : ℕ) (listing : List ℕ) : Type 0 where
  pub book : Book
  pub condition : Condition
  pub of_book : asked bytes number ≡ result (book, condition)
  -- the pairs that it begins with are the book's exclusions in book order
  pub pairs : excluded (records listing) ≡ map pair_mask book.exclusions
  pub one_by_one : Forall₂ (StandsFor book.policies condition) (postfix condition.expression) (nodes (records listing))

-- compiling refused nothing; by what it left, rod and logger say the same of every set, also in a traverse; its lines are the minimal sets
pub record Agreed (bytes : List ℕ) (number : ℕ) (left : List ℕ) (answer : Result ℕ CompileError) : Type 0 where
  pub count : ℕ
  pub compiles : answer ≡ Ok count
  pub same : (set : ℕ) (rod : Result Bool Fault) (logger : Result Bool Declined)
      → listing_answer rod ≡ rod_answer (compiled_listing count left) set → condition_answer logger ≡ scored_answer bytes number set → SaySame rod logger
  pub traverse : (sets lent : List ℕ) (returned : Result ℕ TraverseError) (answers : List ℕ) → length sets ≡ length lent
      → TraverseRan (compiled_listing count left) sets lent returned answers → TraverseSays bytes number sets returned answers
  pub minimal : MinimalListing bytes number (compiled_listing count left)

-- for every accepted book, each condition in it and each lent slice that its listing fits
abbrev pub Demand3 : Type 0
Demand3 =
    (bytes : List ℕ) (number : ℕ) (lent left : List ℕ) (answer : Result ℕ CompileError)
    → ListingFits bytes number lent → CompilingRan bytes number lent left answer → Agreed bytes number left answer
