-- The rules of lowest rank, and the worth of rules in range.
use Prim.Native.Nat.{ℕ, suc, ◌+◌, ◌-◌, ◌*◌, ◌^◌, ◌≤◌, ◌<◌}
use mathlib.Core.List.{List, [], ◌∷◌}
use mathlib.Core.Path.{◌≡◌, refl, sym, ap, subst, ◌∙◌}
use native.Mathlib.Nat.{le_trans, pow-le-pow_right}
use native.Mathlib.Omega.{arith}
use lib.IntN.{ℤ}
use lib.ListN.{length, get_or, drop, length-drop, drop_of_length-le}
use lib.Seq.{drop-cons}
use lib.Signed.{mag}
use Rattle.arith.proofs.Each.{each-get}
use Rattle.arith.proofs.Keep.{each-drop}
use Rattle.arith.proofs.Signed.{mag-add}
use Rattle.peal.specs.Policies.{Rule, Policy, smaller, larger}
use Rattle.peal.specs.Standins.{no_rule}
use Rattle.peal.specs.SearchFindsLines.{score_fits}
use Rattle.peal.specs.Combining.{combined_of}
use Rattle.peal.specs.declared.Operator.{Operator}
use Rattle.peal.specs.declared.Operator.TheVariants.{Min, Max, Sum, Mul}
use Rattle.peal.proofs.HavingLaws.{product-natural}
use Rattle.peal.proofs.TwoLaws.{one_of_two}
use Rattle.book.specs.Acceptance.{within, score_in_range}
use Rattle.book.proofs.ScoreSizes.{score-mag, InScore, InRange, Room}
use Rattle.compiler.specs.Worth.{initial, worth}
use Rattle.compiler.specs.Planning.{rest_of, next_rule, RulesInRange}
use Rattle.compiler.proofs.WorthLaws.{product-worth}

-- ---- how large the worth of rules is

-- n rules at most, in an operator
abbrev bound : Operator → ℕ → ℕ
bound Min n = 200001
bound Max n = 200001
bound Sum n = 10001 * n
bound Mul n = 100 ^ n

worth-mag : (o : Operator) (X : List Rule) → InRange o X → mag (worth o X) ≤ bound o (length X)
unfolding worth initial combined_of score_in_range within score_fits
worth-mag Min [] h = omega arith
worth-mag Min (r ∷ X) h = one_of_two (λ (z : ℤ). mag z ≤ 200001) smaller r.score (worth Min X) (omega (arith, score-mag Min r.score h.0)) (worth-mag Min X h.1)
worth-mag Max [] h = omega arith
worth-mag Max (r ∷ X) h = one_of_two (λ (z : ℤ). mag z ≤ 200001) larger r.score (worth Max X) (omega (arith, score-mag Max r.score h.0)) (worth-mag Max X h.1)
worth-mag Sum [] h = omega arith
worth-mag Sum (r ∷ X) h = omega (arith, score-mag Sum r.score h.0, worth-mag Sum X h.1, mag-add r.score (worth Sum X))
worth-mag Mul X h = let p = product-natural X h in subst (λ (z : ℤ). mag z ≤ 100 ^ length X) (sym (sym (product-worth X) ∙ p.1)) p.2

bound-small : (o : Operator) (n : ℕ) → Room o n → bound o n ≤ 10 ^ 16
bound-small Min n h = omega arith
bound-small Max n h = omega arith
bound-small Sum n h = omega (arith, h.0)
bound-small Mul n h = pow-le-pow_right {n = 100} (omega arith) (h.1 refl)

pub worth-small : (o : Operator) (X : List Rule) → RulesInRange o X → mag (worth o X) ≤ 10 ^ 16
worth-small o X h = le_trans (worth-mag o X h.scores) (bound-small o (length X) (h.few, h.room))

-- ---- the rules of lowest rank

module _ (rules : List Rule) where
  pub no-rest : rest_of 0 rules ≡ []
  unfolding rest_of
  no-rest = drop_of_length-le rules {i = length rules - 0} (omega arith)

  pub all_rest : rest_of (length rules) rules ≡ rules
  unfolding rest_of
  all_rest = let e : length rules - length rules ≡ 0 = omega arith in ap (λ (i : ℕ). drop i rules) e

  module _ (k : ℕ) (h : k < length rules) where
    -- one rule more: the next higher in rank
    pub more-rest : rest_of (k + 1) rules ≡ get_or rules (length rules - (k + 1)) no_rule ∷ rest_of k rules
    unfolding rest_of
    more-rest =
        let e : suc (length rules - (k + 1)) ≡ length rules - k = omega arith in
        drop-cons rules (length rules - (k + 1)) no_rule (omega arith) ∙ ap (λ (i : ℕ). get_or rules (length rules - (k + 1)) no_rule ∷ drop i rules) e

  pub rest-length : (k : ℕ) → k ≤ length rules → length (rest_of k rules) ≡ k
  unfolding rest_of
  rest-length k h = omega (arith, length-drop (length rules - k) rules)

-- ---- the worth of the rules of lowest rank

pub rest-initial : (o : Operator) (rules : List Rule) → initial o ≡ worth o (rest_of 0 rules)
unfolding worth
rest-initial o rules = sym (ap (worth o) (no-rest rules))

pub rest-next : (o : Operator) (rules : List Rule) (k : ℕ) → k < length rules → (v w : ℤ) → v ≡ (get_or rules (length rules - (k + 1)) no_rule).score → w ≡ worth o (rest_of k rules)
    → combined_of o v w ≡ worth o (rest_of (k + 1) rules)
unfolding worth
rest-next o rules k h v w e f =
    ap (λ (z : ℤ). combined_of o z w) e ∙ ap (combined_of o (get_or rules (length rules - (k + 1)) no_rule).score) f ∙ sym (ap (worth o) (more-rest rules k h))

-- ---- ranges

pub range-rest : (o : Operator) (rules : List Rule) (k : ℕ) → RulesInRange o rules → RulesInRange o (rest_of k rules)
unfolding rest_of
range-rest o rules k h =
    let n = length-drop (length rules - k) rules in
    record {
      signals = each-drop (λ (r : Rule). r.signal < 16) (length rules - k) rules h.signals;
      scores = each-drop (InScore o) (length rules - k) rules h.scores;
      few = omega (arith, n, h.few);
      room = λ m. omega (arith, n, h.room m);
    }

pub next-signal : (q : Policy) (k : ℕ) → 0 < k → k ≤ length q.rules → RulesInRange q.operator q.rules → (next_rule q k).signal < 16
unfolding next_rule
next-signal q k some inside h = each-get (λ (r : Rule). r.signal < 16) q.rules (length q.rules - k) no_rule h.signals (omega arith)
