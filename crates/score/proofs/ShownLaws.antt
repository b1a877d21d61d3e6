-- What is shown of a score is the one pair that is that score, and the pairs are in the order of the scores.
use Prim.Native.Nat.{ℕ}
use mathlib.Core.Bool.{Bool, true, false, not, cond}
use mathlib.Core.List.{List}
use mathlib.Core.Path.{◌≡◌, refl, ap, ap₂, ◌∙◌}
use native.Mathlib.Omega.{arith}
use lib.IntN.{ℤ, pos, negsuc}
use lib.Signed.{le_z, lt_z}
use Rattle.std.proofs.lemmas.Int.{ints}
use Rattle.arith.specs.Trees.{leaf, join, tree_value}
use Rattle.peal.specs.Policies.{Policy, MinMax, smaller, larger, Expression, policy_at}
use Rattle.peal.specs.Score.{scaled, of_two, policy_score, score, meets}
use Rattle.peal.specs.declared.Sense.{Sense}
use Rattle.peal.specs.declared.Sense.TheVariants.{Above, AtMost}
use Rattle.peal.proofs.TwoLaws.{not_lt_z}
use Rattle.score.specs.Pairs.{Is}
use Rattle.score.specs.Shown.{shown, equal, at_most, of_pairs, exceeds, meets_shown}
use Rattle.score.specs.declared.exact.Exact.{Exact}

-- ---- the one pair

-- it is the score
pub is-shown : (v : ℤ) → Is (shown v) v
unfolding shown scaled
is-shown (pos n) = record { small = omega arith; same = omega (arith, ints) }
is-shown (negsuc n) = record { small = omega arith; same = omega (arith, ints) }

-- and no other is
one-pair : (x : Exact) (v : ℤ) → Is x v → (x.hundredths ≡ (shown v).hundredths) × (x.remainder ≡ (shown v).remainder)
unfolding scaled
one-pair x v i = let j = is-shown v in (omega (arith, ints, i.same, j.same, i.small, j.small), omega (arith, ints, i.same, j.same, i.small, j.small))

pub pair-shown : (x : Exact) (v : ℤ) → Is x v → x ≡ shown v
pair-shown x v i = let (h, r) = one-pair x v i in λ k. record { hundredths = h k; remainder = r k }

-- ---- the order

at-most-shown : (v w : ℤ) → at_most (shown v) (shown w) ≡ le_z v w
unfolding at_most equal scaled
at-most-shown v w =
    let i = is-shown v in
    let j = is-shown w in
    grind (arith, ints, i.same, j.same, i.small, j.small)

-- the decision, by the pair
pub above-shown : (t v : ℤ) → lt_z (scaled t) v ≡ exceeds t (shown v)
unfolding exceeds equal scaled
above-shown t v = let j = is-shown v in grind (arith, ints, j.same, j.small)

pub meets-shown : (s : Sense) (t v : ℤ) → meets s t v ≡ meets_shown s t (shown v)
unfolding meets meets_shown
meets-shown Above t v = above-shown t v
meets-shown AtMost t v = not_lt_z v (scaled t) ∙ ap not (above-shown t v)

-- ---- min and max

shown-either : (b : Bool) (v w : ℤ) → shown (cond b v w) ≡ cond b (shown v) (shown w)
shown-either true v w = refl
shown-either false v w = refl

shown-two : (m : MinMax) (v w : ℤ) → shown (of_two m v w) ≡ of_pairs m (shown v) (shown w)
unfolding of_two of_pairs
shown-two smaller v w = rw (at-most-shown v w) (shown-either (le_z v w) v w)
shown-two larger v w = rw (at-most-shown v w) (shown-either (le_z v w) w v)

pub shown-expression : (ps : List Policy) (set : ℕ) (e : Expression) → shown (score ps set e) ≡ tree_value of_pairs (λ k. shown (policy_score set (policy_at ps k))) e
unfolding score tree_value
shown-expression ps set (leaf k) = refl
shown-expression ps set (join m a b) =
    shown-two m (score ps set a) (score ps set b) ∙ ap₂ (of_pairs m) (shown-expression ps set a) (shown-expression ps set b)
