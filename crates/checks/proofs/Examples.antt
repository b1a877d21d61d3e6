-- Computed examples of the checks. Where all sets are walked, a law counts them, by what is computed of a set.
use Prim.Native.Nat.{ℕ, ◌+◌, ◌/◌, ◌%◌}
use mathlib.Core.Bool.{Bool, true, false, not, cond, ◌&&◌, ◌||◌}
use mathlib.Core.List.{List, [], ◌∷◌}
use mathlib.Core.Option.{none, some}
use mathlib.Core.Path.{◌≡◌, refl, sym, ap, ap₂}
use native.Mathlib.Omega.{arith}
use lib.Dec.{eqb}
use Rattle.answers.specs.Answers.{result, refused}
use Rattle.arith.specs.Lists.{count_below}
use Rattle.arith.proofs.Counts.{count-all, count-again}
use Rattle.signals.specs.Sets.{present}
use Rattle.checks.specs.Checks.{permitted, always, never, both, chosen, gives, first, second, differ, declined, comparison}
use Rattle.checks.specs.OnePass.{started, take_set, pass_from}
use Rattle.checks.specs.Computing.{checks_compute}
use Rattle.checks.proofs.Answers.{chosen-by}
use Rattle.checks.proofs.Search.{nowhere}

-- yes exactly where signal s, of weight w, is present; and the same turned over
abbrev needs : ℕ → List ℕ
needs w = 16 ∷ w ∷ 2 ∷ 0 ∷ 4 ∷ w ∷ 0 ∷ 0 ∷ []

abbrev forbids : ℕ → List ℕ
forbids w = 19 ∷ w ∷ 2 ∷ 0 ∷ 4 ∷ w ∷ 0 ∷ 0 ∷ []

-- set 4 is the first that gives yes, or turned over no; sets 0 to 4 are judged
choice-both : chosen (needs 4) ≡ result (record { choice = both 4 0; judged = 5 })
unfolding checks_compute
choice-both = refl

choice-turned : chosen (forbids 4) ≡ result (record { choice = both 0 4; judged = 5 })
unfolding checks_compute
choice-turned = refl

choice-declined : chosen (16 ∷ 4 ∷ 3 ∷ 0 ∷ []) ≡ refused 10 1
unfolding checks_compute
choice-declined = refl

-- the lowest set where the two differ, and which says yes there
first-says-yes : comparison (needs 2) (needs 4) ≡ differ 2 first
unfolding checks_compute
first-says-yes = refl

second-says-yes : comparison (needs 4) (needs 2) ≡ differ 2 second
unfolding checks_compute
second-says-yes = refl

-- the first listing is examined fully before the second
first-declined : comparison (16 ∷ 4 ∷ 3 ∷ 0 ∷ []) [] ≡ declined first 10 1
unfolding checks_compute
first-declined = refl

second-declined : comparison (needs 2) [] ≡ declined second 9 0
unfolding checks_compute
second-declined = refl

-- ---- sets with an excluded pair are passed over

-- yes exactly where signals 0 and 1, or 0 and 2, are present; the first two are excluded
abbrev first_with_another : List ℕ
first_with_another = 5 ∷ 3 ∷ 0 ∷ 2 ∷ 16 ∷ 7 ∷ 3 ∷ 0 ∷ 4 ∷ 3 ∷ 0 ∷ 4 ∷ 4 ∷ 5 ∷ 0 ∷ 0 ∷ []

-- sets 0, 1, 2, 4 and 5 are judged, and set 3 is not
excluded-set : chosen first_with_another ≡ result (record { choice = both 5 0; judged = 5 })
unfolding checks_compute
excluded-set = refl

-- yes where signals 0 and 1 are present, which exclude each other
abbrev excludes : List ℕ
excludes = 5 ∷ 3 ∷ 0 ∷ 2 ∷ 16 ∷ 3 ∷ 3 ∷ 0 ∷ 4 ∷ 3 ∷ 0 ∷ 0 ∷ []

-- the two differ on set 3 first, which a pair of the first listing, or of the second, excludes
excluded-by-first : comparison excludes (needs 4) ≡ differ 4 second
unfolding checks_compute
excluded-by-first = refl

excluded-by-second : comparison (needs 4) excludes ≡ differ 4 first
unfolding checks_compute
excluded-by-second = refl

-- ---- all sets are walked

-- a policy without signals, yes where none is present: always, and all 65,536 sets are judged
abbrev holds : List ℕ
holds = 17 ∷ 0 ∷ 0 ∷ 0 ∷ []

judged-all : result (record { choice = always; judged = 65536 }) ≡ chosen holds
unfolding checks_compute
judged-all = chosen-by holds refl true refl none (nowhere (gives holds false) (λ set. refl)) 65536 (sym (count-all (permitted holds) 65536 (λ set. refl)))

-- only sets with the pair give yes: never, and of each four sets three are judged, 49,152 of all
no-set : (set : ℕ) → gives excludes true set ≡ false
unfolding checks_compute
no-set set = go (present set 1) (present set 0)
  where
    go : (a b : Bool) → (not (a && (b && true)) && true && cond (a || (b || false)) (a && (b && true) || false) false) ≡ false
    go true true = refl
    go true false = refl
    go false true = refl
    go false false = refl

three-of-four : count_below 65536 (permitted excludes) ≡ 49152
unfolding checks_compute
three-of-four = count-again (permitted excludes) 4 16384 (λ i. ap₂ (λ (a b : Bool). not (a && (b && true)) && true) (ap (λ (x : ℕ). eqb x 1) (next i)) (ap (λ (x : ℕ). eqb x 1) (lowest i)))
  where
    lowest : (i : ℕ) → (4 + i) / 1 % 2 ≡ i / 1 % 2
    lowest i = omega arith

    next : (i : ℕ) → (4 + i) / 2 % 2 ≡ i / 2 % 2
    next i = omega arith

judged-never : result (record { choice = never; judged = 49152 }) ≡ chosen excludes
unfolding checks_compute
judged-never = chosen-by excludes refl false refl none (nowhere (gives excludes true) no-set) 49152 (sym three-of-four)

-- ---- the pass itself

-- of sets 0 to 4 the first gives yes and the last no
pass-turned : pass_from (forbids 4) 65536 0 started ≡ record { yes = some 0; no = some 4; judged = 5 }
unfolding take_set pass_from checks_compute
pass-turned = refl

-- set 3 has the excluded pair, and is passed over
pass-without : pass_from first_with_another 65536 0 started ≡ record { yes = some 5; no = some 0; judged = 5 }
unfolding take_set pass_from checks_compute
pass-without = refl
