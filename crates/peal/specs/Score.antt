-- The published score and the decision (document 01, "The scored decision"; document 000, section 2).
use Rattle.std.specs.Prelude.{ℕ, ◌-◌, ◌^◌, Bool, cond, List, [], ◌∷◌, ℤ, pos, ◌+ℤ◌, ◌*ℤ◌, length}
use Rattle.std.specs.Int.Signed.{le_z, lt_z}
use Rattle.arith.specs.Lists.{keep}
use Rattle.arith.specs.Trees.{tree_value}
use Rattle.signals.specs.Sets.{present}
use Rattle.peal.specs.Policies.{Rule, Policy, MinMax, smaller, larger, Expression, Condition, policy_at}
use Rattle.peal.specs.declared.Operator.{Operator}
use Rattle.peal.specs.declared.Operator.TheVariants.{Min, Max, Sum, Mul}
use Rattle.peal.specs.declared.Sense.{Sense}
use Rattle.peal.specs.declared.Sense.TheVariants.{Above, AtMost}

-- some hundredths in parts, of which a unit has 10 to the 16: so scores are exact, a product of at most eight too
unfoldable pub scaled : ℤ → ℤ
scaled v = v *ℤ pos (10 ^ 14)

-- the rules whose signal is present
unfoldable pub present_rules : ℕ → List Rule → List Rule
present_rules set rules = keep (λ r. present set r.signal) rules

-- the sum of the scores of some rules
unfoldable pub total : List Rule → ℤ
total [] = pos 0
total (r ∷ rs) = r.score +ℤ total rs

-- the product of the scores of some rules; divided by 100 to their number it is in units
unfoldable pub score_product : List Rule → ℤ
score_product [] = pos 1
score_product (r ∷ rs) = r.score *ℤ score_product rs

-- the same in parts, for at most eight rules, as a mul policy of an accepted book has: 8 - n is 0 for every n above 8
unfoldable pub scaled_product : List Rule → ℤ
scaled_product rules = score_product rules *ℤ pos (100 ^ (8 - length rules))

-- the smaller or the larger of two
unfoldable pub of_two : MinMax → ℤ → ℤ → ℤ
of_two smaller a b = cond (le_z a b) a b
of_two larger a b = cond (le_z a b) b a

-- the smallest or the largest score of a rule and more
unfoldable pub of_all : MinMax → Rule → List Rule → ℤ
of_all m r [] = r.score
of_all m r (q ∷ rs) = of_two m r.score (of_all m q rs)

-- the operator applied to the scores of a rule and more, in parts
unfoldable pub applied : Operator → Rule → List Rule → ℤ
applied Min r rs = scaled (of_all smaller r rs)
applied Max r rs = scaled (of_all larger r rs)
applied Sum r rs = scaled (total (r ∷ rs))
applied Mul r rs = scaled_product (r ∷ rs)

-- with no rule present the default; otherwise the operator over the present rules alone
unfoldable pub score_of : Policy → List Rule → ℤ
score_of p [] = scaled p.default
score_of p (r ∷ rs) = applied p.operator r rs

-- the score of a policy on a signal set, in parts
unfoldable pub policy_score : ℕ → Policy → ℤ
policy_score set p = score_of p (present_rules set p.rules)

-- the score of an expression: min and max take the smaller and the larger score
unfoldable pub score : List Policy → ℕ → Expression → ℤ
score ps set e = tree_value of_two (λ n. policy_score set (policy_at ps n)) e

-- a score in parts meets the condition: T is less than it, or it is at most T
unfoldable pub meets : Sense → ℤ → ℤ → Bool
meets Above t s = lt_z (scaled t) s
meets AtMost t s = le_z s (scaled t)

-- the decision
unfoldable pub decision : List Policy → Condition → ℕ → Bool
decision ps c set = meets c.sense c.threshold (score ps set c.expression)
