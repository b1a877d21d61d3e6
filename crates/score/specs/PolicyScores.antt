-- The score of a policy as the code makes it: its rules one by one.
use Rattle.std.specs.Prelude.{ℕ, zero, suc, List, [], ◌∷◌, ℤ, length}
use Rattle.std.proofs.Math.Option.{Option, some}
use Rattle.arith.specs.Options.{if◌then◌}
use Rattle.signals.specs.Sets.{present}
use Rattle.peal.specs.Policies.{Rule, Policy}
use Rattle.peal.specs.Combining.{combined_of}
use Rattle.peal.specs.declared.Operator.{Operator}
use Rattle.score.specs.declared.policies.Present.{Present}

-- what a rule adds on a signal set
unfoldable pub rule_score : ℕ → Rule → Option ℤ
rule_score set r = if present set r.signal then some r.score

-- the operator over the scores of a rule and more
unfoldable pub over : Operator → Rule → List Rule → ℤ
over o r [] = r.score
over o r (q ∷ rs) = combined_of o r.score (over o q rs)

-- how many of a policy's rules there are, and the operator over their scores; with none, the default
unfoldable pub present_of : Policy → List Rule → Present
present_of p [] = record { count = 0; value = p.default }
present_of p (r ∷ rs) = record { count = length (r ∷ rs); value = over p.operator r rs }

-- the operator over the scores of n rules, with one score more
unfoldable pub value_with : Operator → ℕ → ℤ → ℤ → ℤ
value_with o zero w v = v
value_with o (suc n) w v = combined_of o v w

unfoldable pub with_score : Operator → Present → ℤ → Present
with_score o so v = record { count = suc so.count; value = value_with o so.count so.value v }
