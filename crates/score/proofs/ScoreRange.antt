-- The score of an accepted condition is -10,000 to 160,000 hundredths: as low as a default or a score, as high as sixteen of a sum.
use Prim.Native.Nat.{ℕ, ◌+◌, ◌-◌, ◌*◌, ◌/◌, ◌^◌, ◌≤◌}
use mathlib.Core.Bool.{Bool, true}
use mathlib.Core.List.{List, [], ◌∷◌}
use mathlib.Core.Path.{◌≡◌, refl, sym, ap, ap₂, subst}
use native.Mathlib.Omega.{arith}
use lib.Dec.{leb}
use lib.IntN.{ℤ, pos, negsuc, neg_ℤ, ◌+ℤ◌, ◌*ℤ◌}
use lib.ListN.{length}
use lib.Signed.{le_z}
use borrow.Author.Tests.{leb-true, le-leb}
use Rattle.arith.specs.Members.{Each}
use Rattle.arith.specs.Trees.{leaf, join, tree_value}
use Rattle.arith.proofs.Each.{each-default}
use Rattle.arith.proofs.Keep.{keep-few, each_keep}
use Rattle.arith.proofs.Members.{each_in, each-out}
use Rattle.arith.proofs.Order.{le_z-trans, le_z-times}
use Rattle.arith.proofs.Tests.{and_left, and_right, clash}
use Rattle.signals.specs.Sets.{present}
use Rattle.peal.specs.Policies.{Rule, Policy, MinMax, smaller, larger, Expression, policy_at, empty_policy}
use Rattle.peal.specs.Score.{scaled, present_rules, total, scaled_product, of_all, applied, score_of, policy_score, score}
use Rattle.peal.specs.declared.Operator.{Operator}
use Rattle.peal.specs.declared.Operator.TheVariants.{Min, Max, Sum, Mul}
use Rattle.peal.specs.SearchFindsLines.{score_fits}
use Rattle.peal.proofs.HavingLaws.{product-natural}
use Rattle.peal.proofs.TwoLaws.{one_of_two}
use Rattle.limits.specs.Limits.{within, default_in_range, score_in_range}
use Rattle.book.specs.Ranges.{PolicyInRange}
use Rattle.book.proofs.RangeLaws.{rules-at-most}
use Rattle.book.proofs.ScoreSizes.{InScore, InRange, Room}
use Rattle.score.specs.Shown.{shown}
use Rattle.score.proofs.PairLaws.{few-parts}

-- the lowest score and the highest
abbrev lowest : ℤ
lowest = neg_ℤ (pos 10000)

abbrev highest : ℤ
highest = pos 160000

-- between them, in hundredths and in parts
abbrev pub InHundredths : ℤ → Type 0
InHundredths z = within lowest highest z ≡ true

abbrev InParts : ℤ → Type 0
InParts v = within (scaled lowest) (scaled highest) v ≡ true

module _ (low high z : ℤ) where
  at_least : within low high z ≡ true → le_z low z ≡ true
  unfolding within
  at_least h = and_left (le_z low z) (le_z z high) h

  at_most : within low high z ≡ true → le_z z high ≡ true
  unfolding within
  at_most h = and_right (le_z low z) (le_z z high) h

  between : le_z low z ≡ true → le_z z high ≡ true → within low high z ≡ true
  unfolding within
  between p q = rw p q

scaled-in : (z : ℤ) → InHundredths z → InParts (scaled z)
unfolding scaled
scaled-in z h =
    between (scaled lowest) (scaled highest) (scaled z) (le_z-times lowest z (10 ^ 14) (at_least lowest highest z h))
    (le_z-times z highest (10 ^ 14) (at_most lowest highest z h))

natural-in : (n : ℕ) → n ≤ 160000 * 10 ^ 14 → InParts (pos n)
unfolding scaled
natural-in n h = between (scaled lowest) (scaled highest) (pos n) refl (le-leb n (160000 * 10 ^ 14) h)

-- a default, and a score of min or max
abbrev One : ℤ → Type 0
One z = within lowest (pos 10000) z ≡ true

one_in : (z : ℤ) → One z → InParts (scaled z)
one_in z h = scaled-in z (between lowest highest z (at_least lowest (pos 10000) z h) (le_z-trans z (pos 10000) highest (at_most lowest (pos 10000) z h) refl))

-- ---- the operators

natural-score : (v : ℤ) → score_in_range Sum v ≡ true → (n : ℕ) × (v ≡ pos n) × (n ≤ 10000)
unfolding score_in_range within
natural-score (pos n) h = (n, refl, leb-true n 10000 (and_right (leb 0 n) (leb n 10000) h))
natural-score (negsuc n) h = clash h refl

total-natural : (rs : List Rule) → InRange Sum rs → (n : ℕ) × (total rs ≡ pos n) × (n ≤ 10000 * length rs)
unfolding total
total-natural [] h = (0, refl, omega arith)
total-natural (r ∷ rs) h =
    let (s, e, l) = natural-score r.score h.0 in
    let (n, f, k) = total-natural rs h.1 in
    (s + n, ap₂ (λ (a b : ℤ). a +ℤ b) e f, omega arith)

product-in-parts : (rs : List Rule) → InRange Mul rs → length rs ≤ 8 → (n : ℕ) × (scaled_product rs ≡ pos n) × (n ≤ 100 ^ 8)
unfolding scaled_product score_in_range within score_fits
product-in-parts rs h k =
    let (p, e, l) = product-natural rs h in
    (p * 100 ^ (8 - length rs), ap (λ (z : ℤ). z *ℤ pos (100 ^ (8 - length rs))) e, few-parts p (length rs) l k)

one_of_all : (m : MinMax) (r : Rule) (rs : List Rule) → Each (λ (q : Rule). One q.score) (r ∷ rs) → One (of_all m r rs)
unfolding of_all
one_of_all m r [] h = h.0
one_of_all m r (q ∷ rs) h = one_of_two One m r.score (of_all m q rs) h.0 (one_of_all m q rs h.1)

-- the operator over a rule and more
applied-in : (o : Operator) (r : Rule) (rs : List Rule) → InRange o (r ∷ rs) → Room o (length (r ∷ rs)) → InParts (applied o r rs)
unfolding applied score_in_range scaled
applied-in Min r rs h k = one_in (of_all smaller r rs) (one_of_all smaller r rs h)
applied-in Max r rs h k = one_in (of_all larger r rs) (one_of_all larger r rs h)
applied-in Sum r rs h k =
    let (n, e, l) = total-natural (r ∷ rs) h in
    subst (λ (z : ℤ). InParts (scaled z)) (sym e) (natural-in (n * 10 ^ 14) (omega (arith, k.0)))
applied-in Mul r rs h k = let (n, e, l) = product-in-parts (r ∷ rs) h (k.1 refl) in subst InParts (sym e) (natural-in n (omega arith))

-- ---- a policy, and an expression

score-of-in : (p : Policy) (rs : List Rule) → One p.default → InRange p.operator rs → Room p.operator (length rs) → InParts (score_of p rs)
unfolding score_of
score-of-in p [] d h k = one_in p.default d
score-of-in p (r ∷ rs) d h k = applied-in p.operator r rs h k

policy-in : (set : ℕ) (p : Policy) → PolicyInRange p → InParts (policy_score set p)
unfolding policy_score present_rules default_in_range
policy-in set p range =
    let here : Rule → Bool = λ r. present set r.signal in
    let few = keep-few here p.rules in
    score-of-in p (present_rules set p.rules) range.default
    (each_keep here (InScore p.operator) p.rules range.scores)
    (omega (arith, few, rules-at-most p range), λ m. omega (arith, few, range.room m))

-- the one that stands in for a policy that is not there scores 0
none_in : (set : ℕ) → InParts (policy_score set empty_policy)
unfolding policy_score present_rules score_of empty_policy scaled within
none_in set = refl

expression-in : (ps : List Policy) (set : ℕ) → Each PolicyInRange ps → (e : Expression) → InParts (score ps set e)
unfolding score tree_value policy_at
expression-in ps set range (leaf n) =
    let In : Policy → Type 0 = λ p. InParts (policy_score set p) in
    each-default In ps n empty_policy (each_in In ps (λ p m. policy-in set p (each-out PolicyInRange range m))) (none_in set)
expression-in ps set range (join m a b) =
    one_of_two InParts m (score ps set a) (score ps set b) (expression-in ps set range a) (expression-in ps set range b)

-- ---- as it is shown

hundredths-in : (v : ℤ) → InParts v → InHundredths (shown v).hundredths
unfolding shown scaled
hundredths-in (pos n) h =
    between lowest highest (pos (n / 10 ^ 14)) refl
    (le-leb (n / 10 ^ 14) 160000 (omega (arith, leb-true n (160000 * 10 ^ 14) (at_most (scaled lowest) (scaled highest) (pos n) h))))
hundredths-in (negsuc n) h =
    between lowest highest (negsuc (n / 10 ^ 14))
    (le-leb (n / 10 ^ 14) 9999 (omega (arith, leb-true n (10000 * 10 ^ 14 - 1) (at_least (scaled lowest) (scaled highest) (negsuc n) h)))) refl

pub shown-in-range : (ps : List Policy) (set : ℕ) (e : Expression) → Each PolicyInRange ps → InHundredths (shown (score ps set e)).hundredths
shown-in-range ps set e range = hundredths-in (score ps set e) (expression-in ps set range e)
