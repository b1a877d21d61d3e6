-- How the code tells whether a set of rules has the property of its operator: from the operator over their scores, and a limit.
use Rattle.std.specs.Prelude.{ℕ, ◌+◌, ◌^◌, Bool, cond, List, [], ◌∷◌, ◌≡◌, ℤ, pos, negsuc, neg_ℤ, ◌*ℤ◌}
use Rattle.std.specs.Int.Signed.{le_z, lt_z}
use Rattle.peal.specs.Policies.{Rule}
use Rattle.peal.specs.Combining.{combined_of}
use Rattle.peal.specs.declared.Operator.{Operator}
use Rattle.peal.specs.declared.Operator.TheVariants.{Min, Max, Sum, Mul}

-- above every threshold; its opposite is below every one
abbrev pub above_all : ℤ
above_all = pos 200001

-- the operator over no score: beyond every threshold in max and min
unfoldable pub initial : Operator → ℤ
initial Sum = pos 0
initial Mul = pos 1
initial Max = neg_ℤ above_all
initial Min = above_all

-- the operator over the scores of some rules, in hundredths; in mul the bare product
unfoldable pub worth : Operator → List Rule → ℤ
worth o [] = initial o
worth o (r ∷ rs) = combined_of o r.score (worth o rs)

-- T, but at least -1 and at most 100: beyond that no product of scores tells a difference
unfoldable pub clamped : ℤ → ℤ
clamped t = cond (lt_z t (pos 0)) (negsuc 0) (cond (lt_z (pos 100) t) (pos 100) t)

-- the limit for a set of k rules
unfoldable pub limit_of : Operator → ℤ → ℕ → ℤ
limit_of Sum t k = t
limit_of Max t k = t
limit_of Min t k = t
limit_of Mul t k = clamped t *ℤ pos (100 ^ k)

-- from the limit for k rules, the limit for one more
abbrev pub NextLimit : Operator → (limit next : ℤ) → Type 0
NextLimit o limit next = (t : ℤ) (k : ℕ) → limit ≡ limit_of o t k → next ≡ limit_of o t (k + 1)

-- a value is on the side of the limit that counts
unfoldable pub reached_of : Operator → ℤ → ℤ → Bool
reached_of Sum limit v = lt_z limit v
reached_of Max limit v = lt_z limit v
reached_of Min limit v = le_z v limit
reached_of Mul limit v = le_z (v *ℤ pos 100) limit
