-- The refusals of the calls on listings: the value is at most the number of records.
use Prim.Native.Nat.{ℕ, ◌+◌, ◌/◌, ◌≤◌}
use mathlib.Core.List.{List, [], ◌∷◌}
use mathlib.Core.Option.{Option, none, some}
use mathlib.Core.Path.{◌≡◌, sym, ap, subst}
use native.Mathlib.Omega.{arith}
use lib.Dec.{eqb}
use lib.ListN.{length, length-drop}
use Rattle.answers.specs.Answers.{Answer}
use Rattle.layout.specs.Records.{Record, records, kind_of, kinds}
use Rattle.layout.specs.Judgement.{SoFar, no_record, keeps_layout, so_far_after, judged, length_sound, verdict}
use Rattle.layout.specs.Steps.{records_from}
use Rattle.layout.proofs.Places.{from-nil}
use Rattle.rod.specs.Reading.{rod_answer}
use Rattle.rod.specs.Traversing.{traversed, answer_count}
use Rattle.checks.specs.Checks.{choice, chosen, lowest_set, Comparison, alike, differ, declined, first, second, differ_at, comparison_of, examined, comparison}
use Rattle.exports.proofs.Refusals.{InTable, Refuses, never, by, tried, widened, on-result}

records-few : (ws : List ℕ) → length (records ws) ≤ length ws / 4
unfolding records_from
records-few ws = omega (arith, length-drop (length ws / 4) (records ws), ap length (from-nil ws (length ws / 4) (omega arith)))

judging : (most n : ℕ) (so : SoFar) (rs : List Record) → n + length rs ≤ most → Refuses 9 10 most (judged n so rs)
unfolding judged
judging most n so [] h = tried (eqb so.values 1) (omega arith) (λ _. never tt)
judging most n so (r ∷ rs) h =
    tried (keeps_layout (n + 1) so (kind_of r.kind) r (kinds rs)) (omega arith)
    (λ _. judging most (n + 1) (so_far_after so (kind_of r.kind) r) rs (omega arith))

module _ (ws : List ℕ) where
  verdicts : Refuses 9 10 (length ws / 4) (verdict ws)
  unfolding verdict
  verdicts = tried (length_sound ws) (omega arith) (λ _. judging (length ws / 4) 0 no_record (records ws) (omega (arith, records-few ws)))

  pub rod-reading : (set : ℕ) → Refuses 9 10 (length ws / 4) (rod_answer ws set)
  unfolding rod_answer
  rod-reading set = on-result verdicts (λ u. never _)

  pub traversing : (sets lent : List ℕ) → Refuses 9 11 (length ws / 4) (answer_count (traversed ws sets lent))
  unfolding traversed answer_count
  traversing sets lent =
      on-result
      (tried (eqb (length sets) (length lent)) (omega arith) (λ _. on-result (widened (omega arith) verdicts) (λ u. never _)))
      (λ answers. never _)

  pub choosing : Refuses 9 10 (length ws / 4) (chosen ws)
  unfolding chosen choice
  choosing = on-result (on-result verdicts (λ u. never _)) (λ c. never _)

-- ---- the comparison

-- neither listing is declined, or one of so many records by such a refusal
abbrev pub Declines : (one two : ℕ) → Comparison → Type 0
Declines one two alike = Unit {0}
Declines one two (differ set w) = Unit {0}
Declines one two (declined first number value) = InTable 9 10 one number value
Declines one two (declined second number value) = InTable 9 10 two number value

by-sets : (one two : ℕ) (o : Option ℕ) (ws : List ℕ) → Declines one two (comparison_of o ws)
unfolding comparison_of
by-sets one two none ws = tt
by-sets one two (some set) ws = tt

by-verdicts : {one two : ℕ} {v w : Answer (Unit {0})} (c : Comparison) → Refuses 9 10 one v → Refuses 9 10 two w → Declines one two c → Declines one two (examined v w c)
unfolding examined
by-verdicts c (by n x i) w h = i
by-verdicts c (never u) (by n x i) h = i
by-verdicts c (never u) (never v) h = h

pub comparing : (one two : List ℕ) → Declines (length one / 4) (length two / 4) (comparison one two)
unfolding comparison
comparing one two =
    by-verdicts (comparison_of (lowest_set (differ_at one two)) one) (verdicts one) (verdicts two)
    (by-sets (length one / 4) (length two / 4) (lowest_set (differ_at one two)) one)

module _ (one two : List ℕ) {number value : ℕ} where
  pub first-in-table : declined first number value ≡ comparison one two → InTable 9 10 (length one / 4) number value
  first-in-table e = subst (λ (c : Comparison). Declines (length one / 4) (length two / 4) c) (sym e) (comparing one two)

  pub second-in-table : declined second number value ≡ comparison one two → InTable 9 10 (length two / 4) number value
  second-in-table e = subst (λ (c : Comparison). Declines (length one / 4) (length two / 4) c) (sym e) (comparing one two)
