-- How large results are.
use Prim.Native.Nat.{ℕ, ◌≤◌, ◌<◌}
use mathlib.Core.Bool.{true, false, ◌&&◌}
use mathlib.Core.List.{List}
use mathlib.Core.Option.{Option, none, some}
use mathlib.Core.Path.{◌≡◌, sym, ap, subst, ◌∙◌}
use native.Mathlib.Omega.{arith}
use lib.IntN.{pos, negsuc, nat_abs, ◌+ℤ◌}
use lib.ListN.{length}
use lib.Signed.{le_z, ◌≤ℤ◌}
use Rattle.std.proofs.lemmas.Int.{ints}
use Rattle.answers.specs.Answers.{result}
use Rattle.answers.proofs.Results.{result-is, gone-on}
use Rattle.arith.proofs.Counts.{count-le, count-some}
use Rattle.layout.specs.Judgement.{verdict}
use Rattle.rod.specs.Traversing.{traversed, answer_count}
use Rattle.rod.proofs.Traverses.{as_many, answers-given}
use Rattle.checks.specs.Checks.{permitted, gives, Choice, always, never, both, choice_of, choice, judged_end, judged_sets, Chosen, chosen}
use Rattle.checks.proofs.Pairs.{permitted-zero}
use Rattle.checks.proofs.Search.{LowestIs, lowest-is}
use Rattle.limits.specs.Limits.{within}
use Rattle.book.specs.Books.{read, Counts, checked}
use Rattle.book.proofs.BoundedLaws.{read-in-range}
use Rattle.score.specs.Shown.{shown_answer}
use Rattle.score.specs.declared.exact.Exact.{Exact}
use Rattle.score.proofs.ShownTells.{shown-tells}
use Rattle.exports.specs.Packing.{below_zero}

pub counts-small : (bytes : List ℕ) (n : Counts) → result n ≡ checked bytes → (n.policies ≤ 16) × (n.conditions ≤ 8)
unfolding checked
counts-small bytes n h =
    let (b, r, e) = gone-on (read bytes) _ n (sym h) in
    let range = read-in-range bytes b r in
    omega (arith, range.policies_room, range.conditions_room, ap (λ (c : Counts). c.policies) (result-is e), ap (λ (c : Counts). c.conditions) (result-is e))

-- ---- a score

-- the hundredths, from the lowest to the highest
pub hundredths-bounded : (bytes : List ℕ) (number set : ℕ) (x : Exact) → result x ≡ shown_answer bytes number set
    → (negsuc 9999 ≤ℤ x.hundredths) × (x.hundredths ≤ℤ pos 160000)
unfolding within
hundredths-bounded bytes number set x h =
    let range : (le_z (negsuc 9999) x.hundredths && le_z x.hundredths (pos 160000)) ≡ true = shown-tells.range bytes number set x (sym h) in
    (grind (arith, ints), grind (arith, ints))

-- counted from the lowest
pub hundredths-natural : (bytes : List ℕ) (number set : ℕ) (x : Exact) → shown_answer bytes number set ≡ result x
    → (n : ℕ) × (x.hundredths +ℤ below_zero ≡ pos n) × (n ≤ 170000)
hundredths-natural bytes number set x h =
    let bounds = hundredths-bounded bytes number set x (sym h) in
    (nat_abs (x.hundredths +ℤ below_zero), omega (arith, ints, bounds), omega (arith, ints, bounds))

-- ---- a traverse

-- as many answers as sets
pub answers-counted : (ws sets lent : List ℕ) (n : ℕ) → result n ≡ answer_count (traversed ws sets lent) → n ≡ length sets
unfolding answer_count
answers-counted ws sets lent n h =
    let (answers, e, counted) = gone-on (traversed ws sets lent) _ n (sym h) in
    sym (result-is counted) ∙ ap length (sym (answers-given ws sets lent answers e).1) ∙ as_many ws sets

-- ---- the choice check

-- the sets that are named are signal sets
abbrev pub NamesSets : Choice → Type 0
NamesSets always = Unit {0}
NamesSets never = Unit {0}
NamesSets (both y n) = (y < 65536) × (n < 65536)

-- 1 to 65,536 sets are judged
pub record ChosenFits (c : Chosen) : Type 0 where
  pub sets : NamesSets c.choice
  pub some : 0 < c.judged
  pub few : c.judged ≤ 65536

-- the judging ends after set 0, and with set 65,535 at the latest
end-within : (c : Choice) → NamesSets c → (0 < judged_end c) × (judged_end c ≤ 65536)
unfolding judged_end
end-within always h = (omega arith, omega arith)
end-within never h = (omega arith, omega arith)
end-within (both y n) h = (omega arith, omega (arith, h.0, h.1))

module _ (ws : List ℕ) where
  of-lowest : (y n : Option ℕ) → LowestIs (gives ws true) y → LowestIs (gives ws false) n → NamesSets (choice_of y n)
  unfolding choice_of
  of-lowest (some y) (some n) h k = (omega (arith, h.0), omega (arith, k.0))
  of-lowest (some y) none h k = tt
  of-lowest none n h k = tt

  pub chosen-fits : (c : Chosen) → result c ≡ chosen ws → ChosenFits c
  unfolding chosen choice judged_sets
  chosen-fits c h =
      let (a, e, is) = gone-on (choice ws) _ c (sym h) in
      let (u, v, is-choice) = gone-on (verdict ws) _ a e in
      let names = subst NamesSets (result-is is-choice) (of-lowest _ _ (lowest-is (gives ws true)) (lowest-is (gives ws false))) in
      let (past, within) = end-within a names in
      subst ChosenFits (result-is is)
      (record {
        sets = names;
        some = count-some (permitted ws) (judged_end a) past (permitted-zero ws v);
        few = omega (arith, count-le (permitted ws) (judged_end a), within);
      })
