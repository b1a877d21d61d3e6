-- The rod's answer on a condition's listing is the decision: min and max of scores become "and" and "or" of answers.
use Prim.Native.Nat.{ℕ, ◌+◌, ◌≤◌}
use mathlib.Core.Bool.{Bool}
use mathlib.Core.List.{List, map}
use mathlib.Core.Path.{◌≡◌, refl, sym, ap, ap₂, ◌∙◌}
use native.Mathlib.Omega.{arith}
use lib.IntN.{ℤ}
use Rattle.answers.specs.Answers.{result}
use Rattle.arith.specs.Members.{Each}
use Rattle.arith.specs.Trees.{leaf, join, map_tree, tree_value}
use Rattle.arith.specs.Leaves.{leaf_count}
use Rattle.arith.proofs.Each.{each-default}
use Rattle.layout.specs.Nodes.{ListedPolicy}
use Rattle.layout.specs.WellFormed.{ListedTree, PolicyFits, TreeFits}
use Rattle.rod.specs.Reading.{policy_value, joined}
use Rattle.rod.proofs.Trees.{rod-tree}
use Rattle.peal.specs.Policies.{Policy, MinMax, smaller, larger, Expression, Condition, Book, empty_policy, policy_at}
use Rattle.peal.specs.Score.{scaled, of_two, score, meets, decision}
use Rattle.translation.specs.Translation.{join_of, listed, translated, pair_mask, listing_records}
use Rattle.peal.specs.declared.Sense.{Sense}
use Rattle.peal.specs.declared.Sense.TheVariants.{Above, AtMost}
use Rattle.translation.proofs.ListedFits.{listed-fits}
use Rattle.peal.proofs.TwoLaws.{larger-above, smaller-above, larger-at-most, smaller-at-most}
use Rattle.limits.specs.Limits.{within, default_in_range}
use Rattle.book.specs.Ranges.{PolicyInRange}
use Rattle.agreement.specs.ConditionAgreement.{ConditionAgreement}
use Rattle.agreement.proofs.Policies.{signals-fit, policy-agreement}
use Rattle.agreement.proofs.Pairs.{pairs-fit}

-- the smaller or larger of two scores meets the condition where the join of the two answers says so
meets-two : (s : Sense) (t : ℤ) (m : MinMax) (a b : ℤ) → meets s t (of_two m a b) ≡ joined (join_of s m) (meets s t a) (meets s t b)
unfolding meets joined join_of
meets-two Above t smaller a b = smaller-above (scaled t) a b
meets-two Above t larger a b = larger-above (scaled t) a b
meets-two AtMost t smaller a b = smaller-at-most (scaled t) a b
meets-two AtMost t larger a b = larger-at-most (scaled t) a b

-- a policy that is not there is in range too
empty-in-range : PolicyInRange empty_policy
unfolding empty_policy default_in_range within
empty-in-range = record { default = refl; signals = tt; distinct = tt; scores = tt; room = λ e. omega arith }

pub policy-in-range : (ps : List Policy) → Each PolicyInRange ps → (n : ℕ) → PolicyInRange (policy_at ps n)
unfolding policy_at
policy-in-range ps ranges n = each-default PolicyInRange ps n empty_policy ranges empty-in-range

-- the tree of an expression, whatever record stands for a mention
module _ (s : Sense) (record_of : ℕ → ListedPolicy) where
  pub tree-policies : (e : Expression) → leaf_count (map_tree (join_of s) record_of e) ≡ leaf_count e
  unfolding map_tree tree_value leaf_count
  tree-policies (leaf n) = refl
  tree-policies (join m a b) = ap₂ (λ (x y : ℕ). x + y) (tree-policies a) (tree-policies b)

  pub tree-fits : ((n : ℕ) → PolicyFits (record_of n)) → (e : Expression) → TreeFits (map_tree (join_of s) record_of e)
  unfolding map_tree tree_value
  tree-fits fits (leaf n) = fits n
  tree-fits fits (join m a b) = (tree-fits fits a, tree-fits fits b)

module _ (ps : List Policy) (s : Sense) (t : ℤ) where
  -- the record of a mention
  abbrev pub record_at : ℕ → ListedPolicy
  record_at n = listed s t (policy_at ps n)

  -- the tree of an expression
  abbrev pub tree : Expression → ListedTree
  tree e = map_tree (join_of s) record_at e

  module _ (ranges : Each PolicyInRange ps) where
    record-fits : (n : ℕ) → PolicyFits (record_at n)
    record-fits n = listed-fits s t (policy_at ps n) (signals-fit (policy_at ps n) (policy-in-range ps ranges n))

    tree-agrees : (set : ℕ) (e : Expression) → tree_value joined (policy_value set) (tree e) ≡ meets s t (score ps set e)
    unfolding map_tree tree_value score
    tree-agrees set (leaf n) = policy-agreement (policy_at ps n) s t set (policy-in-range ps ranges n)
    tree-agrees set (join m a b) = ap₂ (joined (join_of s m)) (tree-agrees set a) (tree-agrees set b) ∙ sym (meets-two s t m (score ps set a) (score ps set b))

-- ---- the condition

module _ (b : Book) (c : Condition) where
  pub condition-policies : leaf_count c.expression ≤ 16 → leaf_count (translated b.policies c) ≤ 16
  unfolding translated
  condition-policies room = omega (arith, tree-policies c.sense (record_at b.policies c.sense c.threshold) c.expression)

  pub condition-fits : Each PolicyInRange b.policies → TreeFits (translated b.policies c)
  unfolding translated
  condition-fits ranges =
      tree-fits c.sense (record_at b.policies c.sense c.threshold) (record-fits b.policies c.sense c.threshold ranges) c.expression

pub condition-agreement : ConditionAgreement
unfolding listing_records translated decision
condition-agreement b c set range room =
    rod-tree (map pair_mask b.exclusions) (translated b.policies c) set (pairs-fit b range) (condition-fits b c range.policies) (condition-policies b c room)
    ∙ ap (λ (a : Bool). result a) (tree-agrees b.policies c.sense c.threshold range.policies set c.expression)
