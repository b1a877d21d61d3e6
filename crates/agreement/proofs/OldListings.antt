-- Listings from before change request 4: where their lines differ, the empty set was the one line, and the rod says the same by both.
use Prim.Native.Nat.{ℕ, ◌≤◌}
use mathlib.Core.Bool.{Bool, true, false, not, cond, ◌&&◌, ◌||◌, and-true, and-false, and_assoc}
use mathlib.Core.List.{List, [], ◌∷◌, ◌++◌, map, append-nil}
use mathlib.Core.Path.{◌≡◌, refl, sym, ap, ap₂, subst, ◌∙◌}
use native.Mathlib.Omega.{arith}
use lib.Dec.{ltb}
use lib.IntN.{ℤ}
use lib.ListN.{length}
use borrow.Author.Tests.{lt-ltb}
use Rattle.answers.specs.Answers.{result}
use Rattle.arith.specs.Lists.{every, keep, non_empty, subsets}
use Rattle.arith.specs.Trees.{leaf, join, map_tree, tree_value}
use Rattle.arith.specs.Leaves.{leaf_count}
use Rattle.arith.proofs.EveryExists.{every_append}
use Rattle.arith.proofs.Keep.{keep_append, keep_same}
use Rattle.arith.proofs.Members.{keep-none}
use Rattle.arith.proofs.Sublists.{keep-inside}
use Rattle.arith.proofs.Subsets.{subsets-last}
use Rattle.arith.proofs.Tests.{clash}
use Rattle.signals.specs.Sets.{present, inside, overlap, set_of}
use Rattle.layout.specs.Records.{words}
use Rattle.layout.specs.Nodes.{ListedPolicy}
use Rattle.layout.specs.WellFormed.{PolicyFits}
use Rattle.rod.specs.Reading.{some_line, policy_value, joined, rod_answer}
use Rattle.rod.proofs.Trees.{rod-tree}
use Rattle.peal.specs.Policies.{Rule, Policy, Expression, Condition, Book, policy_at, mask_of}
use Rattle.peal.specs.Score.{present_rules}
use Rattle.peal.specs.Ranking.{ranked}
use Rattle.peal.specs.Lines.{sets_inside, smaller_sets, minimal, minimal_sets, lines, has}
use Rattle.translation.specs.Translation.{join_of, quiet, turned, listed, translated, pair_mask, listing_records}
use Rattle.peal.specs.Presence.{all_present}
use Rattle.peal.specs.declared.Operator.{Operator}
use Rattle.peal.specs.declared.Sense.{Sense}
use Rattle.peal.proofs.PersistLaws.{fits-inside, has_all}
use Rattle.peal.proofs.MaskLaws.{masks-decide}
use Rattle.translation.proofs.ListedFits.{listed-fits}
use Rattle.peal.proofs.MinimalSets.{inside-out}
use Rattle.peal.proofs.SingleLaws.{lines-minimal}
use Rattle.book.specs.Ranges.{PolicyInRange, BookInRange}
use Rattle.book.proofs.AskedLaws.{asked-in-range}
use Rattle.agreement.specs.OldListings.{minimal_before, lines_before, listed_before, records_before, OldListings}
use Rattle.agreement.proofs.Policies.{signals-fit, rules-fit, shared, line-inside}
use Rattle.agreement.proofs.Pairs.{pairs-fit}
use Rattle.agreement.proofs.Conditions.{policy-in-range, tree-policies, tree-fits, record_at, condition-fits, condition-policies}

-- ---- the lines

module _ (property : List Rule → Bool) where
  abbrev lacks : List Rule → Bool
  lacks Y = not (property Y)

  -- a non-empty set was minimal exactly if it is and the empty set lacks the property
  some-before : (X : List Rule) → non_empty X ≡ true → minimal_before property X ≡ (minimal property X && lacks [])
  unfolding minimal_before minimal smaller_sets sets_inside
  some-before [] h = clash h refl
  some-before (r ∷ X) h =
      ap (λ (sets : List (List Rule)). property (r ∷ X) && every lacks (keep shorter sets)) (subsets-last (r ∷ X))
      ∙ ap (λ (sets : List (List Rule)). property (r ∷ X) && every lacks sets) (keep_append shorter (sets_inside (r ∷ X)) ([] ∷ []))
      ∙ ap (λ (b : Bool). property (r ∷ X) && every lacks (smaller_sets (r ∷ X) ++ cond b ([] ∷ []) [])) (lt-ltb 0 (length (r ∷ X)) (omega arith))
      ∙ ap (λ (b : Bool). property (r ∷ X) && b) (every_append lacks (smaller_sets (r ∷ X)) ([] ∷ []))
      ∙ ap (λ (b : Bool). property (r ∷ X) && (every lacks (smaller_sets (r ∷ X)) && b)) (and-true (lacks []))
      ∙ sym (and_assoc (property (r ∷ X)) (every lacks (smaller_sets (r ∷ X))) (lacks []))
    where
      shorter : List Rule → Bool
      shorter Y = ltb (length Y) (length (r ∷ X))

  -- the lines as they were, the empty set last
  sets-before : (rules : List Rule) → keep (minimal_before property) (subsets rules) ≡ keep (minimal_before property) (sets_inside rules) ++ cond (property []) ([] ∷ []) []
  unfolding sets_inside minimal_before
  sets-before rules =
      ap (keep (minimal_before property)) (subsets-last rules)
      ∙ keep_append (minimal_before property) (keep non_empty (subsets rules)) ([] ∷ [])
      ∙ ap (λ (b : Bool). keep (minimal_before property) (sets_inside rules) ++ cond b ([] ∷ []) []) (and-true (property []))

  same-sets : (rules : List Rule) → property [] ≡ false → keep (minimal_before property) (subsets rules) ≡ minimal_sets property rules
  unfolding minimal_sets
  same-sets rules e =
      sets-before rules
      ∙ ap (λ (b : Bool). keep (minimal_before property) (sets_inside rules) ++ cond b ([] ∷ []) []) e
      ∙ append-nil (keep (minimal_before property) (sets_inside rules))
      ∙ keep_same (minimal_before property) (minimal property) (sets_inside rules) (λ X m.
      some-before X (inside-out rules m).1 ∙ ap (λ (b : Bool). minimal property X && not b) e ∙ and-true (minimal property X))

  one_set : (rules : List Rule) → property [] ≡ true → keep (minimal_before property) (subsets rules) ≡ [] ∷ []
  one_set rules e =
      sets-before rules
      ∙ ap₂ (λ (sets : List (List Rule)) (b : Bool). sets ++ cond b ([] ∷ []) [])
      (keep-none (minimal_before property) (sets_inside rules) (λ X m.
      some-before X (inside-out rules m).1 ∙ ap (λ (b : Bool). minimal property X && not b) e ∙ and-false (minimal property X)))
      e

module _ (op : Operator) (t : ℤ) (rules : List Rule) where
  unchanged : has op t [] ≡ false → lines_before op t rules ≡ lines op t rules
  unfolding lines_before
  unchanged e = same-sets (has op t) (ranked op rules) e ∙ sym (lines-minimal op t rules)

  nothing : has op t [] ≡ true → lines_before op t rules ≡ [] ∷ []
  unfolding lines_before
  nothing e = one_set (has op t) (ranked op rules) e

-- ---- one policy

module _ (p : Policy) (s : Sense) (t : ℤ) (h : PolicyInRange p) where
  -- its record, with other lines
  abbrev with_lines : List (List Rule) → ListedPolicy
  with_lines sets = record { quiet = quiet s t p; turned = turned s p.operator; mask = mask_of p.rules; lines = map mask_of sets }

  before-is : {sets : List (List Rule)} → lines_before p.operator t p.rules ≡ sets → listed_before s t p ≡ with_lines sets
  unfolding listed_before
  before-is e = ap with_lines e

  listed-is : listed s t p ≡ with_lines (lines p.operator t p.rules)
  unfolding listed
  listed-is = refl

  record_same : has p.operator t [] ≡ false → listed_before s t p ≡ listed s t p
  record_same e = before-is (unchanged p.operator t p.rules e) ∙ sym listed-is

  -- the mask of no rule lies inside every set
  none_inside : (set : ℕ) → inside 0 set ≡ true
  unfolding mask_of set_of all_present
  none_inside set = (masks-decide [] set (record { below = tt; different = tt })).0

  fits-before : PolicyFits (listed_before s t p)
  unfolding mask_of set_of
  fits-before = go (has p.operator t []) refl
    where
      go : (b : Bool) → has p.operator t [] ≡ b → PolicyFits (listed_before s t p)
      go false e = subst PolicyFits (sym (record_same e)) (listed-fits s t p (signals-fit p h))
      go true e =
          subst PolicyFits (sym (before-is (nothing p.operator t p.rules e)))
          (record { mask_fits = (subst PolicyFits listed-is (listed-fits s t p (signals-fit p h))).mask_fits; lines_fit = (omega arith, none_inside (mask_of p.rules), tt) })

  module _ (set : ℕ) where
    -- where the empty set has the property, some line lies inside every set that shares a signal with the policy
    line-there : has p.operator t [] ≡ true → overlap (mask_of p.rules) set ≡ true → some_line (listed s t p).lines set ≡ true
    unfolding present_rules
    line-there e o =
        line-inside p s t set h
        ∙ ap₂ (λ (a b : Bool). a && b) (sym (shared p s t set h) ∙ o)
        (has_all p.operator t (present_rules set p.rules) (fits-inside (keep-inside (λ r. present set r.signal) p.rules) (rules-fit p h)) e)

    -- and the one line of no rule did
    value-of-nothing : policy_value set (with_lines ([] ∷ [])) ≡ cond (overlap (mask_of p.rules) set) (cond (turned s p.operator) false true) (quiet s t p)
    unfolding policy_value some_line mask_of set_of
    value-of-nothing =
        ap (λ (b : Bool). cond (overlap (mask_of p.rules) set) (cond (turned s p.operator) (not (b || false)) (b || false)) (quiet s t p)) (none_inside set)

    value-now : has p.operator t [] ≡ true → cond (overlap (mask_of p.rules) set) (cond (turned s p.operator) false true) (quiet s t p) ≡ policy_value set (listed s t p)
    unfolding policy_value listed
    value-now e = go (overlap (mask_of p.rules) set) refl
      where
        go : (o : Bool) → overlap (mask_of p.rules) set ≡ o
            → cond o (cond (turned s p.operator) false true) (quiet s t p)
            ≡ cond o (cond (turned s p.operator) (not (some_line (listed s t p).lines set)) (some_line (listed s t p).lines set)) (quiet s t p)
        go true o = ap (λ (b : Bool). cond (turned s p.operator) (not b) b) (sym (line-there e o))
        go false o = refl

    value_before : policy_value set (listed_before s t p) ≡ policy_value set (listed s t p)
    value_before = go (has p.operator t []) refl
      where
        go : (b : Bool) → has p.operator t [] ≡ b → policy_value set (listed_before s t p) ≡ policy_value set (listed s t p)
        go false e = ap (policy_value set) (record_same e)
        go true e = ap (policy_value set) (before-is (nothing p.operator t p.rules e)) ∙ value-of-nothing ∙ value-now e

-- ---- the condition

module _ (s : Sense) (set : ℕ) (f g : ℕ → ListedPolicy) (same : (n : ℕ) → policy_value set (f n) ≡ policy_value set (g n)) where
  trees-agree : (e : Expression) → tree_value joined (policy_value set) (map_tree (join_of s) f e) ≡ tree_value joined (policy_value set) (map_tree (join_of s) g e)
  unfolding map_tree tree_value
  trees-agree (leaf n) = same n
  trees-agree (join m a b) = ap₂ (joined (join_of s m)) (trees-agree a) (trees-agree b)

module _ (b : Book) (c : Condition) (set : ℕ) (range : BookInRange b) (room : leaf_count c.expression ≤ 16) where
  abbrev pairs : List ℕ
  pairs = map pair_mask b.exclusions

  -- the record of a mention as it was
  abbrev before : ℕ → ListedPolicy
  before n = listed_before c.sense c.threshold (policy_at b.policies n)

  in-range : (n : ℕ) → PolicyInRange (policy_at b.policies n)
  in-range n = policy-in-range b.policies range.policies n

  condition-alike : rod_answer (words (records_before b c)) set ≡ rod_answer (words (listing_records b c)) set
  unfolding records_before listing_records translated
  condition-alike =
      rod-tree pairs (map_tree (join_of c.sense) before c.expression) set (pairs-fit b range)
      (tree-fits c.sense before (λ n. fits-before (policy_at b.policies n) c.sense c.threshold (in-range n)) c.expression)
      (omega (arith, room, tree-policies c.sense before c.expression))
      ∙ ap (λ (a : Bool). result a)
      (trees-agree c.sense set before (record_at b.policies c.sense c.threshold)
      (λ n. value_before (policy_at b.policies n) c.sense c.threshold (in-range n) set)
      c.expression)
      ∙ sym (rod-tree pairs (translated b.policies c) set (pairs-fit b range) (condition-fits b c range.policies) (condition-policies b c room))

pub old-listings : OldListings
old-listings =
    record {
      unchanged = unchanged;
      nothing = nothing;
      alike =
          λ bytes number set b c e.
          let (range, condition_range) = asked-in-range bytes number b c e in condition-alike b c set range condition_range.mentions_room;
    }
