-- Claimed: what change request 4 means for rods that hold listings from before it, when the empty set counted. Proved in proofs/OldListings.antt.
use Rattle.std.specs.Prelude.{ℕ, Bool, true, false, not, ◌&&◌, List, [], ◌∷◌, map, ◌≡◌, ltb, ℤ, length}
use Rattle.answers.specs.Answers.{result}
use Rattle.arith.specs.Lists.{every, keep, subsets}
use Rattle.arith.specs.Trees.{postfix, map_tree}
use Rattle.layout.specs.Records.{Record, words}
use Rattle.layout.specs.Nodes.{ListedPolicy, listing}
use Rattle.rod.specs.Reading.{rod_answer}
use Rattle.peal.specs.Policies.{Rule, Policy, Condition, Book, policy_at, mask_of}
use Rattle.peal.specs.Ranking.{ranked}
use Rattle.peal.specs.Lines.{lines, has}
use Rattle.translation.specs.Translation.{join_of, quiet, turned, pair_mask, listing_records}
use Rattle.peal.specs.declared.Operator.{Operator}
use Rattle.peal.specs.declared.Sense.{Sense}
use Rattle.book.specs.Books.{asked}

-- X has the property, and no smaller set inside it has, the empty one among them
unfoldable pub minimal_before : (List Rule → Bool) → List Rule → Bool
minimal_before property X = property X && every (λ Y. not (property Y)) (keep (λ Y. ltb (length Y) (length X)) (subsets X))

-- the lines as they were: minimal sets sought among all sets of the rules; in max and min the same single rules as today
unfoldable pub lines_before : Operator → ℤ → List Rule → List (List Rule)
lines_before op t rules = keep (minimal_before (has op t)) (subsets (ranked op rules))

-- the record of a mention as it was
unfoldable pub listed_before : Sense → ℤ → Policy → ListedPolicy
listed_before s t p =
    record {
      quiet = quiet s t p;
      turned = turned s p.operator;
      mask = mask_of p.rules;
      lines = map mask_of (lines_before p.operator t p.rules);
    }

-- the records of a condition's listing as they were
unfoldable pub records_before : Book → Condition → List Record
records_before b c =
    listing (map pair_mask b.exclusions)
    (postfix (map_tree (join_of c.sense) (λ n. listed_before c.sense c.threshold (policy_at b.policies n)) c.expression))

pub record OldListings : Type 0 where
  -- where the empty set lacks the property (as always in max and min), the lines are what they were
  pub unchanged : (op : Operator) (t : ℤ) (rules : List Rule) → has op t [] ≡ false → lines_before op t rules ≡ lines op t rules
  -- where it has the property, there was one line, which demanded nothing
  pub nothing : (op : Operator) (t : ℤ) (rules : List Rule) → has op t [] ≡ true → lines_before op t rules ≡ [] ∷ []
  -- for every byte string and condition number that are accepted, on every signal set: the rod says by the older listing what it says by that of today
  pub alike : (bytes : List ℕ) (number set : ℕ) (b : Book) (c : Condition) → asked bytes number ≡ result (b, c)
      → rod_answer (words (records_before b c)) set ≡ rod_answer (words (listing_records b c)) set
