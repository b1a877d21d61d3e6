-- Pairs are in the order of the scores that they are.
use Prim.Native.Nat.{ℕ, ◌+◌, ◌-◌, ◌*◌, ◌/◌, ◌%◌, ◌^◌, ◌≤◌}
use mathlib.Core.Path.{◌≡◌, sym, ap, subst, ◌∙◌}
use native.Mathlib.Omega.{arith}
use lib.IntN.{ℤ, pos, ◌*ℤ◌}
use mir.Syntax.{w64}
use mir.Val.{to_z}
use lib.Pow.{pow-add}
use native.Mathlib.Nat.{mul-le-mul_right}
use lib.Signed.{le_z, lt_z}
use Rattle.std.specs.Prelude.{Option, Some}
use Rattle.std.proofs.lemmas.Int.{ints}
use Rattle.std.specs.declared.cmp.Ordering.{Ordering}
use Rattle.std.specs.Ordering.{int_cmp, nat_cmp, ordering_then, partial_ordering_then, partial_lt, partial_le, ord_min, ord_max}
use Rattle.arith.proofs.Order.{above, under, above-scale, under-scale, sum-parts}
use Rattle.peal.specs.Policies.{smaller, larger}
use Rattle.peal.specs.Score.{scaled, of_two}
use Rattle.score.specs.Pairs.{Is}
use Rattle.score.specs.declared.exact.Exact.{Exact}

-- a score in parts, from its pair, as naturals
pub parts : (x : Exact) (v : ℤ) → Is x v → above v + under x.hundredths * 10 ^ 14 ≡ above x.hundredths * 10 ^ 14 + x.remainder + under v
unfolding scaled
parts x v i =
    rw (← i.same, ← above-scale x.hundredths (10 ^ 14), ← under-scale x.hundredths (10 ^ 14))
    (sum-parts (x.hundredths *ℤ pos (10 ^ 14)) x.remainder)

-- the derived order: by the hundredths, then by the remainder
abbrev pub exact_cmp : Exact → Exact → Ordering
exact_cmp x y = ordering_then (int_cmp x.hundredths y.hundredths) (nat_cmp x.remainder y.remainder)

-- the same, as `<` and `<=` read it
abbrev pub exact_partial : Exact → Exact → Option Ordering
exact_partial x y = partial_ordering_then (Some (int_cmp x.hundredths y.hundredths)) (Some (nat_cmp x.remainder y.remainder))

module _ (x y : Exact) (v w : ℤ) (i : Is x v) (j : Is y w) where
  pub below : partial_lt exact_partial x y ≡ lt_z v w
  unfolding scaled
  below = grind (arith, ints, i.same, j.same, i.small, j.small)

  pub at-most : partial_le exact_partial x y ≡ le_z v w
  unfolding scaled
  at-most = grind (arith, ints, i.same, j.same, i.small, j.small)

  pub the-smaller : (z : Exact) → z ≡ ord_min exact_cmp x y → Is z (of_two smaller v w)
  unfolding scaled of_two
  the-smaller z e = grind (arith, ints, i.same, j.same, i.small, j.small)

  pub the-larger : (z : Exact) → z ≡ ord_max exact_cmp x y → Is z (of_two larger v w)
  unfolding scaled of_two
  the-larger z e = grind (arith, ints, i.same, j.same, i.small, j.small)

-- ---- a product of some factors is in parts of which a unit has 100 to their number

pub few-parts : (product count : ℕ) → product ≤ 100 ^ count → count ≤ 8 → product * 100 ^ (8 - count) ≤ 10 ^ 16
few-parts product count h k =
    let all : count + (8 - count) ≡ 8 = omega arith in
    subst (λ (n : ℕ). product * 100 ^ (8 - count) ≤ n) (sym (pow-add 100 count (8 - count)) ∙ ap (λ (n : ℕ). 100 ^ n) all) (mul-le-mul_right (100 ^ (8 - count)) h)

-- the pair of some parts
pub pair-of-parts : (parts : ℕ) → parts ≤ 10 ^ 16 → Is (record { hundredths = to_z w64 (parts / 10 ^ 14); remainder = parts % 10 ^ 14 }) (pos parts)
unfolding scaled
pair-of-parts parts h = record { small = omega arith; same = omega (arith, ints) }
