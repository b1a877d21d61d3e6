-- A point of the search: what the plan tells there, and the points with the next rule and without it.
use Prim.Native.Nat.{ℕ, ◌+◌, ◌-◌, ◌^◌, ◌≤◌, ◌<◌}
use mathlib.Core.List.{List, [], ◌∷◌}
use mathlib.Core.Path.{◌≡◌, sym, ap, ap₂, subst, ◌∙◌}
use native.Mathlib.Omega.{arith}
use lib.IntN.{ℤ}
use lib.ListN.{length, length-append}
use lib.Signed.{mag}
use Rattle.arith.proofs.Each.{each-get}
use Rattle.peal.specs.Standins.{no_rule}
use Rattle.peal.specs.Policies.{Rule, mask_of}
use Rattle.peal.specs.Combining.{combined_of}
use Rattle.peal.specs.declared.Operator.{Operator}
use Rattle.peal.proofs.MaskLaws.{mask-more}
use Rattle.book.proofs.ScoreSizes.{InScore, range-fits}
use Rattle.compiler.specs.Worth.{worth, limit_of, reached_of}
use Rattle.compiler.specs.Planning.{rest_of, next_rule, RulesInRange, row_at, RowFor}
use Rattle.compiler.specs.Searching.{Point, having, all_at, taking, taken_of, Searching}
use Rattle.compiler.specs.declared.planning.Plan.{Plan}
use Rattle.compiler.specs.declared.searching.Taken.{Taken}
use Rattle.compiler.proofs.WorthLaws.{worth-has, worth-append}
use Rattle.compiler.proofs.RestLaws.{more-rest, rest-length, worth-small, range-rest, next-signal}
use Rattle.compiler.proofs.TakenLaws.{worth-more, mask-small, range-both, range-more}

-- ---- what the plan tells

module _ {plan : Plan} {taken : Taken} {left : ℕ} {p : Point} (h : Searching plan taken left p) where
  abbrev o : Operator
  o = p.policy.operator

  abbrev rules : List Rule
  rules = p.policy.rules

  abbrev rest : List Rule
  rest = rest_of left rules

  rest-count : length rest ≡ left
  rest-count = rest-length rules left (omega (arith, h.among))

  all-count : taken.count + left ≡ length (all_at p left)
  all-count = omega (arith, h.counted, length-append p.taken rest, rest-count)

  pub all-range : RulesInRange o (all_at p left)
  all-range =
      range-both o p.taken h.range rest (range-rest o rules left h.planned.range) (omega (arith, rest-count, h.among, h.planned.range.few))
      (λ m. omega (arith, rest-count, h.among, h.planned.range.room m))

  pub taken-small : mag taken.value ≤ 10 ^ 16
  taken-small = subst (λ (z : ℤ). mag z ≤ 10 ^ 16) (sym h.valued) (worth-small o p.taken h.range)

  -- the same, with fewer rules still to come
  pub fewer-coming : (m : ℕ) → m ≤ left → Searching plan taken m p
  fewer-coming m e =
      record { planned = h.planned; counted = h.counted; valued = h.valued; masked = h.masked; among = omega (arith, h.among); range = h.range }

  -- a limit and a value tell whether rules Y have the property
  tells : (Y : List Rule) → RulesInRange o Y → (k : ℕ) → k ≡ length Y → k ≤ length rules → {v : ℤ} → v ≡ worth o Y
      → reached_of plan.operator (row_at plan k).limit v ≡ having p Y
  tells Y r k e i {v} g =
      ap (λ (x : Operator). reached_of x (row_at plan k).limit v) h.planned.operator
      ∙ ap₂ (reached_of o) ((h.planned.rows k i).limit ∙ ap (limit_of o p.threshold) e) g
      ∙ worth-has o p.threshold Y (range-fits o Y r.scores r.room) h.planned.fits

  -- the rules taken
  pub taken-tells : reached_of plan.operator (row_at plan taken.count).limit taken.value ≡ having p p.taken
  taken-tells = tells p.taken h.range taken.count h.counted (omega (arith, h.among, h.counted)) h.valued

  -- these and the rules still to come
  all-worth : combined_of plan.operator taken.value (row_at plan left).rest ≡ worth o (all_at p left)
  all-worth =
      ap (λ (x : Operator). combined_of x taken.value (row_at plan left).rest) h.planned.operator
      ∙ ap₂ (combined_of o) h.valued (h.planned.rows left (omega (arith, h.among))).rest
      ∙ sym (worth-append o p.taken rest)

  pub all-small : mag (combined_of plan.operator taken.value (row_at plan left).rest) ≤ 10 ^ 16
  all-small = subst (λ (z : ℤ). mag z ≤ 10 ^ 16) (sym all-worth) (worth-small o (all_at p left) all-range)

  pub all-tell : reached_of plan.operator (row_at plan (taken.count + left)).limit (combined_of plan.operator taken.value (row_at plan left).rest)
      ≡ having p (all_at p left)
  all-tell = tells (all_at p left) all-range (taken.count + left) all-count (omega (arith, h.among, h.counted)) all-worth

-- ---- one step, with rules still to come

module _ {plan : Plan} {taken : Taken} (left : ℕ) {p : Point} (h : Searching plan taken (left + 1) p) where
  abbrev next : Rule
  next = next_rule p.policy (left + 1)

  pub coming : rest_of (left + 1) p.policy.rules ≡ next ∷ rest_of left p.policy.rules
  unfolding next_rule
  coming = more-rest p.policy.rules left (omega (arith, h.among))

  -- what the plan has of it
  row : RowFor (row_at plan (left + 1)) p.policy p.threshold (left + 1)
  row = h.planned.rows (left + 1) (omega (arith, h.among))

  next-score : InScore p.policy.operator next
  unfolding next_rule
  next-score =
      each-get (InScore p.policy.operator) p.policy.rules (length p.policy.rules - (left + 1)) no_rule h.planned.range.scores (omega (arith, h.among))

  taken-range : RulesInRange p.policy.operator (taking p (left + 1)).taken
  taken-range =
      range-more p.policy.operator p.taken h.range next
      (next-signal p.policy (left + 1) (omega arith) (omega (arith, h.among)) h.planned.range) next-score
      (omega (arith, h.among, h.planned.range.few)) (λ m. omega (arith, h.among, h.planned.range.room m))

  -- the mask with it
  next-mask : taken.mask + (row_at plan (left + 1)).bit ≡ mask_of (taking p (left + 1)).taken
  next-mask = ap₂ (λ (m b : ℕ). m + b) h.masked (row.bit (omega arith)) ∙ mask-more p.taken next

  pub mask-room : taken.mask + (row_at plan (left + 1)).bit < 2 ^ 32
  mask-room = omega (arith, next-mask, mask-small (taking p (left + 1)).taken taken-range.signals, taken-range.few)

  -- the rules taken with it
  next-worth : combined_of plan.operator taken.value (row_at plan (left + 1)).score ≡ worth p.policy.operator (taking p (left + 1)).taken
  next-worth =
      ap (λ (x : Operator). combined_of x taken.value (row_at plan (left + 1)).score) h.planned.operator
      ∙ ap₂ (combined_of p.policy.operator) h.valued (row.score (omega arith))
      ∙ worth-more p.policy.operator p.taken next next-score

  pub next-small : mag (combined_of plan.operator taken.value (row_at plan (left + 1)).score) ≤ 10 ^ 16
  next-small = subst (λ (z : ℤ). mag z ≤ 10 ^ 16) (sym next-worth) (worth-small p.policy.operator (taking p (left + 1)).taken taken-range)

  pub taken-in : {later : Taken} → later.count ≡ taken.count + 1 → later.value ≡ combined_of plan.operator taken.value (row_at plan (left + 1)).score
      → later.mask ≡ taken.mask + (row_at plan (left + 1)).bit → Searching plan later left (taking p (left + 1))
  taken-in e f g =
      record {
        planned = h.planned;
        counted = omega (arith, h.counted, length-append p.taken (next ∷ []));
        valued = f ∙ next-worth;
        masked = g ∙ next-mask;
        among = omega (arith, h.among, length-append p.taken (next ∷ []));
        range = taken-range;
      }

-- ---- what is taken, from its three parts

pub as_local : {plan : Plan} {count : ℕ} {value z : ℤ} {mask left : ℕ} {p : Point} → z ≡ value
    → Searching plan (taken_of count value mask) left p → Searching plan (taken_of count z mask) left p
as_local {plan} {count} {value} {z} {mask} {left} {p} same h = subst (λ (v : ℤ). Searching plan (taken_of count v mask) left p) (sym same) h
