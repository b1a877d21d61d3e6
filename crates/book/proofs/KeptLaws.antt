-- What a book in range tells of its conditions and of what they mention.
use Prim.Native.Nat.{ℕ, ◌≤◌, ◌<◌}
use mathlib.Core.Path.{◌≡◌}
use native.Mathlib.Omega.{arith}
use lib.ListN.{length, get_or}
use Rattle.arith.proofs.Each.{each-get}
use Rattle.peal.specs.Policies.{Book}
use Rattle.peal.specs.Standins.{no_condition}
use Rattle.text.specs.Codes.{codes_of}
use Rattle.text.specs.declared.expressions.Code.TheVariants.{Min, Policy}
use Rattle.text.proofs.MentionLaws.{codes-count}
use Rattle.book.specs.Ranges.{BookInRange, ConditionInRange}
use Rattle.book.specs.Asked.{the_condition}
use Rattle.book.proofs.MentionedPolicies.{mention-below}

module _ (b : Book) (n : ℕ) (there : n < length b.conditions) (range : BookInRange b) where
  -- condition n is in range
  pub condition-kept : ConditionInRange (length b.policies) (the_condition b n)
  condition-kept = each-get (ConditionInRange (length b.policies)) b.conditions n no_condition range.conditions there

  -- what it mentions is a policy of the book
  pub mention-kept : (i k : ℕ) → i < length (codes_of (the_condition b n).expression)
      → get_or (codes_of (the_condition b n).expression) i Min ≡ Policy k → k < length b.policies
  mention-kept i k h is = mention-below (the_condition b n).expression i (length b.policies) k h condition-kept.mentions is

  -- it has at most 31 codes
  pub codes-few : length (codes_of (the_condition b n).expression) ≤ 31
  codes-few = omega (arith, codes-count (the_condition b n).expression, condition-kept.mentions_room)
