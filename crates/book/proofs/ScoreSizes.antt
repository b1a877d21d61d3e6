-- How large the scores of accepted rules are, and that they are fit for the search.
use Prim.Native.Nat.{ℕ, zero, suc, ◌≤◌}
use mathlib.Core.Bool.{true}
use mathlib.Core.List.{List}
use mathlib.Core.Path.{◌≡◌, refl}
use native.Mathlib.Omega.{arith}
use lib.Dec.{leb}
use lib.IntN.{ℤ, pos, negsuc, neg_ℤ}
use lib.ListN.{length}
use lib.Signed.{mag, le_z}
use borrow.Author.Tests.{leb-true}
use Rattle.arith.specs.Members.{Each}
use Rattle.arith.proofs.Members.{each_in, each-out}
use Rattle.arith.proofs.Tests.{and_left, and_right, clash}
use Rattle.peal.specs.Policies.{Rule}
use Rattle.peal.specs.SearchFindsLines.{score_fits, RulesFit}
use Rattle.peal.specs.declared.Operator.{Operator}
use Rattle.peal.specs.declared.Operator.TheVariants.{Min, Max, Sum, Mul}
use Rattle.book.specs.Acceptance.{within, score_in_range}

-- ---- the size of a score

pub within-mag : (lo hi : ℕ) (z : ℤ) → within (neg_ℤ (pos lo)) (pos hi) z ≡ true → (n : ℕ) → lo ≤ n → hi ≤ n → mag z ≤ n
unfolding within
within-mag lo hi (pos z) h n l k = omega (arith, leb-true z hi (and_right (le_z (neg_ℤ (pos lo)) (pos z)) (leb z hi) h))
within-mag zero hi (negsuc z) h n l k = clash h refl
within-mag (suc lo) hi (negsuc z) h n l k = omega (arith, leb-true z lo (and_left (leb z lo) true h))

pub score-mag : (o : Operator) (v : ℤ) → score_in_range o v ≡ true → mag v ≤ 10000
unfolding score_in_range
score-mag Min v h = within-mag 10000 10000 v h 10000 (omega arith) (omega arith)
score-mag Max v h = within-mag 10000 10000 v h 10000 (omega arith) (omega arith)
score-mag Sum v h = within-mag 0 10000 v h 10000 (omega arith) (omega arith)
score-mag Mul v h = within-mag 0 100 v h 10000 (omega arith) (omega arith)

abbrev pub InScore : Operator → Rule → Type 0
InScore o r = score_in_range o r.score ≡ true

abbrev pub InRange : Operator → List Rule → Type 0
InRange o rules = Each (InScore o) rules

-- as many rules as a policy may have
abbrev pub Room : Operator → ℕ → Type 0
Room o n = (n ≤ 16) × (o ≡ Mul → n ≤ 8)

-- ---- what the search needs of them

score-fits : (o : Operator) (v : ℤ) → score_in_range o v ≡ true → score_fits o v ≡ true
unfolding score_in_range score_fits within
score-fits Sum v h = and_left (le_z (pos 0) v) (le_z v (pos 10000)) h
score-fits Mul v h = h
score-fits Max v h = refl
score-fits Min v h = refl

pub range-fits : (o : Operator) (rules : List Rule) → InRange o rules → (o ≡ Mul → length rules ≤ 8) → RulesFit o rules
range-fits o rules h k =
    record { scores = each_in (λ (r : Rule). score_fits o r.score ≡ true) rules (λ r m. score-fits o r.score (each-out (InScore o) h m)); room = k }
