-- One pass over the sets finds what the choice check finds, and judges as many.
use Prim.Native.Nat.{ℕ, zero, suc, ◌+◌, ◌≤◌, max}
use mathlib.Core.Bool.{Bool, true, false, cond}
use mathlib.Core.List.{List}
use mathlib.Core.Logic.{◌⊎◌, inl, inr, ⊎_elim}
use mathlib.Core.Option.{Option, none, some}
use mathlib.Core.Path.{◌≡◌, refl, sym, ap, ◌∙◌}
use native.Mathlib.Nat.{zero-add, add-zero}
use native.Mathlib.Numerals.{add-one}
use native.Mathlib.Omega.{arith}
use Rattle.answers.specs.Answers.{Answer, result, refused, on_result}
use Rattle.arith.specs.Lists.{count_below}
use Rattle.arith.proofs.Counts.{count-zero, count-suc}
use Rattle.layout.specs.Judgement.{verdict}
use Rattle.checks.specs.Checks.{permitted, gives, lowest_from, lowest_set, choice_of, choice, judged_end, judged_sets, Chosen, chosen}
use Rattle.checks.specs.OnePass.{Pass, started, has_both, lowest_with, take_set, pass_from, OnePass}
use Rattle.checks.proofs.Search.{search-on, search-ends, found_among, none_yet}

-- ---- one number more

module _ (test : ℕ → Bool) (n : ℕ) where
  lowest-next : lowest_from (n + 1) 0 test ≡ lowest_with (lowest_from n 0 test) n (test n)
  unfolding lowest_from
  lowest-next = go (lowest_from n 0 test) refl
    where
      go : (o : Option ℕ) → lowest_from n 0 test ≡ o → lowest_from (n + 1) 0 test ≡ lowest_with o n (test n)
      go (some set) e = search-ends test n 1 0 set e
      go none e = search-on test n 1 0 e ∙ rw zero-add

  count_next : count_below (n + 1) test ≡ count_below n test + cond (test n) 1 0
  count_next = rw add-one (count-suc test n)

  -- where none was found before, the one that is found now is the last
  found-last : (set : ℕ) → lowest_from n 0 test ≡ none → lowest_from (n + 1) 0 test ≡ some set → n ≤ set
  found-last set h e = omega (arith, found_among test 1 (0 + n) set (sym (search-on test n 1 0 h) ∙ e))

lowest-alone : (o : Option ℕ) (n : ℕ) → lowest_with o n false ≡ o
lowest-alone (some set) n = refl
lowest-alone none n = refl

-- ---- the pass

-- how far the first n sets are judged: to the higher of the two, if both are there
abbrev judged_to : Option ℕ → Option ℕ → ℕ → ℕ
judged_to (some y) (some m) n = max y m + 1
judged_to (some y) none n = n
judged_to none m n = n

module _ (ws : List ℕ) where
  abbrev lowest : Bool → ℕ → Option ℕ
  lowest b n = lowest_from n 0 (gives ws b)

  -- what a pass over the first n sets has if it went on to the last of them, and if it ended as soon as it had both
  abbrev after : ℕ → Pass
  after n = record { yes = lowest true n; no = lowest false n; judged = count_below n (permitted ws) }

  abbrev ended : ℕ → Pass
  ended n = record { yes = lowest true n; no = lowest false n; judged = count_below (judged_to (lowest true n) (lowest false n) n) (permitted ws) }

  -- it went on to the last of them: if it has both, it has them since that one
  abbrev WentOn : ℕ → Type 0
  WentOn n = judged_to (lowest true n) (lowest false n) n ≡ n

  -- it has not both
  abbrev Lacks : ℕ → Type 0
  Lacks n = (lowest true n ≡ none) ⊎ (lowest false n ≡ none)

  next-set : (n : ℕ) → take_set ws n (after n) ≡ after (n + 1)
  unfolding take_set
  next-set n = go (permitted ws n) refl
    where
      go : (p : Bool) → permitted ws n ≡ p → take_set ws n (after n) ≡ after (n + 1)
      go true e = simp (lowest-next, count_next, e)
      go false e = simp (lowest-next, count_next, e, lowest-alone, add-zero)

  goes_on : (n : ℕ) → Lacks n → WentOn (n + 1)
  goes_on n lacks = go (lowest true (n + 1)) (lowest false (n + 1)) refl refl
    where
      go : (y m : Option ℕ) → lowest true (n + 1) ≡ y → lowest false (n + 1) ≡ m → judged_to y m (n + 1) ≡ n + 1
      go none m e f = refl
      go (some y) none e f = refl
      go (some y) (some m) e f =
          let a = found_among (gives ws true) (n + 1) 0 y e in
          let b = found_among (gives ws false) (n + 1) 0 m f in
          ⊎_elim (λ h. omega (arith, a, b, found-last (gives ws true) n y h e)) (λ h. omega (arith, a, b, found-last (gives ws false) n m h f)) lacks

  passes : (count from : ℕ) → WentOn from → pass_from ws count from (after from) ≡ ended (from + count)
  unfolding pass_from
  passes zero from w = rw (add-zero from, w)
  passes (suc count) from w =
      go (lowest true from) (lowest false from) refl refl
      (λ lacks. rw (next-set from) (passes count (from + 1) (goes_on from lacks) ∙ ap ended (omega arith)))
    where
      go : (y m : Option ℕ) → lowest true from ≡ y → lowest false from ≡ m → {later : Pass} → (Lacks from → later ≡ ended (from + suc count))
          → cond (has_both y m) (after from) later ≡ ended (from + suc count)
      go none m e f on = on (inl e)
      go (some y) none e f on = on (inr f)
      go (some y) (some m) e f on =
          let last : max y m + 1 ≡ from = rw (e, f) at w in
          rw (search-ends (gives ws true) from (suc count) 0 y e, search-ends (gives ws false) from (suc count) 0 m f, e, f, last)

  passes-all : pass_from ws 65536 0 started ≡ ended 65536
  passes-all = ap (pass_from ws 65536 0) start ∙ passes 65536 0 (rw (none_yet (gives ws true) 0))
    where
      start : started ≡ after 0
      start = rw (none_yet (gives ws true) 0, none_yet (gives ws false) 0, count-zero (permitted ws))

pub one-pass : OnePass
unfolding chosen choice lowest_set judged_end judged_sets choice_of
one-pass ws = rw (passes-all ws) (go (verdict ws) (lowest ws true 65536) (lowest ws false 65536))
  where
    go : (v : Answer (Unit {0})) (y m : Option ℕ)
        → on_result {B = Chosen} (on_result v (λ u. result (choice_of y m))) (λ c. result (record { choice = c; judged = judged_sets ws c }))
        ≡ on_result v (λ u. result (record { choice = choice_of y m; judged = count_below (judged_to y m 65536) (permitted ws) }))
    go (refused number value) y m = refl
    go (result u) none m = refl
    go (result u) (some y) none = refl
    go (result u) (some y) (some m) = refl
