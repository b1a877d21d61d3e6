-- The rows of a plan, one after the other.
use Prim.Native.Nat.{ℕ, ◌+◌, ◌-◌, ◌^◌, ◌≤◌, ◌<◌}
use mathlib.Core.List.{List, [], ◌∷◌, ◌++◌}
use mathlib.Core.Logic.{⊎_elim}
use mathlib.Core.Path.{◌≡◌, sym, ap, subst, ◌∙◌}
use native.Mathlib.Omega.{arith}
use lib.IntN.{ℤ}
use lib.ListN.{length, get_or, length-append, get_or-append}
use lib.Seq.{get_or-append_seam}
use lib.Signed.{mag}
use Rattle.arith.proofs.Order.{le-or-lt}
use Rattle.signals.specs.Sets.{set_of}
use Rattle.peal.specs.Policies.{Rule, Policy}
use Rattle.peal.specs.Standins.{no_rule}
use Rattle.peal.specs.Combining.{combined_of}
use Rattle.peal.specs.declared.Operator.{Operator}
use Rattle.compiler.specs.Worth.{initial, worth, limit_of}
use Rattle.compiler.specs.Planning.{ThresholdFits, rest_of, next_rule, RulesInRange, no_row, RowFor, PlanFor}
use Rattle.compiler.specs.declared.planning.Row.{Row}
use Rattle.compiler.specs.declared.planning.Plan.{Plan}
use Rattle.compiler.proofs.LimitLaws.{limit-small}
use Rattle.compiler.proofs.RestLaws.{worth-small, rest-initial, rest-next, range-rest, next-signal}

-- `left` rules of the highest rank are left out; for the others there are rows, the last of them this one
pub record PlannedTo (q : Policy) (t : ℤ) (last : Row) (rows : List Row) (left : ℕ) : Type 0 where
  pub done : ℕ
  pub split : left + done ≡ length q.rules
  pub count : length rows ≡ done + 1
  pub here : RowFor last q t done
  pub each : (j : ℕ) → j ≤ done → RowFor (get_or rows j no_row) q t j

module _ {q : Policy} {t : ℤ} {o : Operator} (same : o ≡ q.operator) where
  pub planned-start : {row : Row} → row.limit ≡ limit_of o t 0 → row.rest ≡ initial o → {before rows : List Row} → before ≡ [] → rows ≡ before ++ (row ∷ []) → {left : ℕ} → left ≡ length q.rules
      → PlannedTo q t row rows left
  planned-start {row} e f {rows = rows} none pushed all =
      let one = pushed ∙ ap (λ (l : List Row). l ++ (row ∷ [])) none in
      let here : RowFor row q t 0 =
      record {
        limit = e ∙ ap (λ (x : Operator). limit_of x t 0) same;
        rest = f ∙ ap initial same ∙ rest-initial q.operator q.rules;
        score = λ m. absurd (omega arith);
        bit = λ m. absurd (omega arith);
      } in
      record {
        done = 0;
        split = omega arith;
        count = ap length one;
        here = here;
        each =
            λ j h.
            let z : 0 ≡ j = omega arith in
            subst (λ (n : ℕ). RowFor (get_or rows n no_row) q t n) z (subst (λ (l : List Row). RowFor (get_or l 0 no_row) q t 0) (sym one) here);
      }

  -- one rule more: the next higher in rank
  module _ {last : Row} {rows : List Row} {left : ℕ} (h : PlannedTo q t last rows left) (some : 0 < left) (range : RulesInRange q.operator q.rules) {rule : Rule}
      (is : rule ≡ get_or q.rules (left - 1) no_rule) where
    next-is : rule ≡ next_rule q (h.done + 1)
    unfolding next_rule
    next-is = let e : left - 1 ≡ length q.rules - (h.done + 1) = omega (arith, h.split) in is ∙ ap (λ (n : ℕ). get_or q.rules n no_rule) e

    inside : h.done < length q.rules
    inside = omega (arith, h.split)

    pub signal-small : rule.signal ≤ 15
    signal-small = omega (arith, ap (λ (r : Rule). r.signal) next-is, next-signal q (h.done + 1) (omega arith) (omega (arith, inside)) range)

    pub last-small : ThresholdFits t → mag last.limit ≤ 10 ^ 16
    last-small fits =
        subst (λ (z : ℤ). mag z ≤ 10 ^ 16) (sym h.here.limit) (limit-small q.operator t h.done fits (λ m. omega (arith, inside, range.room m)))

    more-worth : combined_of o rule.score last.rest ≡ worth q.operator (rest_of (h.done + 1) q.rules)
    unfolding next_rule
    more-worth =
        ap (λ (x : Operator). combined_of x rule.score last.rest) same
        ∙ rest-next q.operator q.rules h.done inside rule.score last.rest (ap (λ (r : Rule). r.score) next-is) h.here.rest

    pub more-small : mag (combined_of o rule.score last.rest) ≤ 10 ^ 16
    more-small =
        subst (λ (z : ℤ). mag z ≤ 10 ^ 16) (sym more-worth)
        (worth-small q.operator (rest_of (h.done + 1) q.rules) (range-rest q.operator q.rules (h.done + 1) range))

    pub planned-turn : {row : Row} → ((k : ℕ) → last.limit ≡ limit_of o t k → row.limit ≡ limit_of o t (k + 1)) → row.rest ≡ combined_of o rule.score last.rest
        → row.score ≡ rule.score → row.bit ≡ set_of (rule.signal ∷ []) → {later : List Row} → later ≡ rows ++ (row ∷ []) → PlannedTo q t row later (left - 1)
    planned-turn {row} e f g b {later} pushed =
        let k = h.done in
        let here : RowFor row q t (k + 1) =
        record {
          limit = e k (h.here.limit ∙ ap (λ (x : Operator). limit_of x t k) (sym same)) ∙ ap (λ (x : Operator). limit_of x t (k + 1)) same;
          rest = f ∙ more-worth;
          score = λ m. g ∙ ap (λ (r : Rule). r.score) next-is;
          bit = λ m. b ∙ ap (λ (r : Rule). set_of (r.signal ∷ [])) next-is;
        } in
        record {
          done = k + 1;
          split = omega (arith, h.split);
          count = omega (arith, ap length pushed, length-append rows (row ∷ []), h.count);
          here = here;
          each =
              λ j few.
              ⊎_elim
              (λ (m : k + 1 ≤ j).
              let z : length rows ≡ j = omega (arith, h.count) in
              let w : k + 1 ≡ j = omega arith in
              let there = ap (λ (n : ℕ). get_or later n no_row) (sym z) ∙ ap (λ (l : List Row). get_or l (length rows) no_row) pushed ∙ get_or-append_seam rows row [] no_row in
              subst (λ (x : Row). RowFor x q t j) (sym there) (subst (RowFor row q t) w here))
              (λ (m : j < k + 1).
              let there = ap (λ (l : List Row). get_or l j no_row) pushed ∙ get_or-append rows (row ∷ []) no_row j (omega (arith, h.count)) in
              subst (λ (x : Row). RowFor x q t j) (sym there) (h.each j (omega arith)))
              (le-or-lt (k + 1) j);
        }

  pub planned-end : {last : Row} {rows : List Row} {left : ℕ} → PlannedTo q t last rows left → left ≤ 0 → {plan : Plan} → plan.operator ≡ o → plan.rows.items ≡ rows
      → RulesInRange q.operator q.rules → ThresholdFits t → PlanFor plan q t
  planned-end {rows = rows} h none {plan} e f range fits =
      record {
        operator = e ∙ same;
        range = range;
        fits = fits;
        count = omega (arith, ap length f, h.count, h.split);
        rows =
            λ k few.
            subst (λ (l : List Row). RowFor (get_or l k no_row) q t k) (sym f) (h.each k (omega (arith, h.split)));
      }
