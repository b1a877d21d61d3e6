-- The choice check and the comparison (document 01, "The office's checks"; change request 1: sets walked; 5: judged).
use Rattle.std.specs.Prelude.{ℕ, zero, suc, ◌+◌, max, Bool, true, false, not, cond, ◌&&◌, List}
use Rattle.std.specs.Bool.{beq}
use Rattle.std.proofs.Math.Option.{Option, none, some}
use Rattle.answers.specs.Answers.{Answer, result, refused, on_result}
use Rattle.arith.specs.Lists.{every, count_below}
use Rattle.signals.specs.Sets.{inside}
use Rattle.layout.specs.Records.{records}
use Rattle.layout.specs.Nodes.{excluded}
use Rattle.layout.specs.Judgement.{verdict}
use Rattle.rod.specs.Reading.{says}

-- the set has no excluded pair of the listing; the checks walk such sets only
unfoldable pub permitted : List ℕ → ℕ → Bool
permitted ws set = every (λ pair. not (inside pair set)) (excluded (records ws))

-- the set has no excluded pair, and the listing gives yes, or no, on it
abbrev pub gives : List ℕ → Bool → ℕ → Bool
gives ws true = λ set. permitted ws set && says ws set
gives ws false = λ set. permitted ws set && not (says ws set)

-- the lowest of the `count` numbers from `from` on that passes the test, if there is one
unfoldable pub lowest_from : ℕ → ℕ → (ℕ → Bool) → Option ℕ
lowest_from zero from test = none
lowest_from (suc count) from test = cond (test from) (some from) (lowest_from count (from + 1) test)

-- the lowest of all 65,536 signal sets that passes the test, if there is one
unfoldable pub lowest_set : (ℕ → Bool) → Option ℕ
lowest_set test = lowest_from 65536 0 test

-- "always", "never", or "both" with the lowest set that gives yes and the lowest that gives no
pub data Choice : Type 0 where
  always never : Choice
  both : (yes no : ℕ) → Choice

-- from the lowest set that gives yes, and the lowest that gives no; one of them is there, since set 0 has no pair
unfoldable pub choice_of : Option ℕ → Option ℕ → Choice
choice_of (some y) (some n) = both y n
choice_of (some y) none = always
choice_of none n = never

-- the choice check of a listing
unfoldable pub choice : List ℕ → Answer Choice
choice ws = on_result (verdict ws) (λ u. result (choice_of (lowest_set (gives ws true)) (lowest_set (gives ws false))))

-- the judging ends before this number: after all sets, or at "both" with the higher of the two
unfoldable pub judged_end : Choice → ℕ
judged_end always = 65536
judged_end never = 65536
judged_end (both y n) = max y n + 1

-- how many sets are judged: those before it that have no excluded pair
unfoldable pub judged_sets : List ℕ → Choice → ℕ
judged_sets ws c = count_below (judged_end c) (permitted ws)

-- what the choice check found, and how many sets were judged for it
pub record Chosen : Type 0 where
  pub choice : Choice
  pub judged : ℕ

-- the choice check of a listing, with how many sets were judged
unfoldable pub chosen : List ℕ → Answer Chosen
chosen ws = on_result (choice ws) (λ c. result (record { choice = c; judged = judged_sets ws c }))

-- one of the two listings of a comparison
pub data Which : Type 0 where
  first second : Which

-- "alike", or the lowest set where the two differ and which says yes; or which was declined, by what number and value
pub data Comparison : Type 0 where
  alike : Comparison
  differ : (set : ℕ) (yes : Which) → Comparison
  declined : Which → (number value : ℕ) → Comparison

-- the set has no excluded pair of either listing, and the two differ on it
unfoldable pub differ_at : List ℕ → List ℕ → ℕ → Bool
differ_at one two set = permitted one set && permitted two set && not (beq (says one set) (says two set))

-- from the lowest set where the two differ
unfoldable pub comparison_of : Option ℕ → List ℕ → Comparison
comparison_of none one = alike
comparison_of (some set) one = differ set (cond (says one set) first second)

-- the first listing is examined fully, then the second
unfoldable pub examined : Answer (Unit {0}) → Answer (Unit {0}) → Comparison → Comparison
examined (refused number value) v c = declined first number value
examined (result u) (refused number value) c = declined second number value
examined (result u) (result v) c = c

-- the comparison of two listings
unfoldable pub comparison : List ℕ → List ℕ → Comparison
comparison one two = examined (verdict one) (verdict two) (comparison_of (lowest_set (differ_at one two)) one)
