-- Minimal sets as they are listed, and as the documents say it of every smaller non-empty set inside.
use Prim.Native.Nat.{◌≤◌, ◌<◌}
use mathlib.Core.Bool.{Bool, true, false, not}
use mathlib.Core.List.Sublistᴰ
use mathlib.Core.List.{List}
use mathlib.Core.Logic.{◌↔◌, ⊎_elim}
use mathlib.Core.Path.{◌≡◌, sym, ap, ◌∙◌}
use lib.Dec.{ltb}
use lib.ListN.{length}
use borrow.Author.Tests.{not-true, ltb-true, lt-ltb}
use Rattle.arith.specs.Lists.{every, non_empty, subsets}
use Rattle.arith.proofs.Keep.{keep_same}
use Rattle.arith.proofs.Order.{le-or-lt}
use Rattle.arith.proofs.Sublists.{whole-inside}
use Rattle.arith.proofs.Tests.{clash, same_answer, and_left, and_right}
use Rattle.arith.proofs.Members.{each_in, each-out, every-each, each-every, keep-in, keep_out}
use Rattle.arith.proofs.Subsets.{subsets-in, subsets-out}
use Rattle.peal.specs.Policies.{Rule}
use Rattle.peal.specs.Lines.{sets_inside, smaller_sets, minimal, minimal_sets}
use Rattle.peal.specs.SetsOfRules.{SetInside}
use Rattle.arith.specs.Members.{Among}

-- X is minimal, said of every smaller non-empty set inside it
pub record IsMinimal (property : List Rule → Bool) (X : List Rule) : Type 0 where
  pub some : non_empty X ≡ true
  pub holds : property X ≡ true
  pub no_smaller : (Y : List Rule) → SetInside Y X → non_empty Y ≡ true → length Y < length X → property Y ≡ false

pub inside-in : {Y X : List Rule} → SetInside Y X → non_empty Y ≡ true → Among Y (sets_inside X)
unfolding sets_inside
inside-in s some = keep-in non_empty (subsets-in s) some

pub inside-out : (X : List Rule) {Y : List Rule} → Among Y (sets_inside X) → SetInside Y X × (non_empty Y ≡ true)
unfolding sets_inside
inside-out X m = let (k, some) = keep_out non_empty (subsets X) m in (subsets-out X k, some)

pub smaller-in : (X Y : List Rule) → SetInside Y X → non_empty Y ≡ true → length Y < length X → Among Y (smaller_sets X)
unfolding smaller_sets
smaller-in X Y s some l = keep-in (λ Y. ltb (length Y) (length X)) (inside-in s some) (lt-ltb (length Y) (length X) l)

pub smaller-out : (X Y : List Rule) → Among Y (smaller_sets X) → SetInside Y X × (non_empty Y ≡ true) × (length Y < length X)
unfolding smaller_sets
smaller-out X Y m =
    let (k, shorter) = keep_out (λ Y. ltb (length Y) (length X)) (sets_inside X) m in
    let (s, some) = inside-out X k in
    (s, some, ltb-true (length Y) (length X) shorter)

module _ (property : List Rule → Bool) where
  abbrev lacks : List Rule → Bool
  lacks Y = not (property Y)

  abbrev Lacks : List Rule → Type 0
  Lacks Y = lacks Y ≡ true

  pub minimal-out : (X : List Rule) → non_empty X ≡ true → minimal property X ≡ true → IsMinimal property X
  unfolding minimal
  minimal-out X some h =
      let none = each-every lacks (smaller_sets X) (and_right (property X) (every lacks (smaller_sets X)) h) in
      record {
        some = some;
        holds = and_left (property X) (every lacks (smaller_sets X)) h;
        no_smaller = λ Y s k l. not-true (property Y) (each-out Lacks none (smaller-in X Y s k l));
      }

  pub minimal-in : (X : List Rule) → IsMinimal property X → minimal property X ≡ true
  unfolding minimal
  minimal-in X h =
      rw h.holds (every-each lacks (smaller_sets X) (each_in Lacks (smaller_sets X) (λ Y m.
      let (s, some, l) = smaller-out X Y m in ap not (h.no_smaller Y s some l))))

  pub among-minimal : (rules X : List Rule)
      → Among X (minimal_sets property rules) ↔ (SetInside X rules × (non_empty X ≡ true) × (minimal property X ≡ true))
  unfolding minimal_sets
  among-minimal rules X = (
    λ m. let (k, least) = keep_out (minimal property) (sets_inside rules) m in let (s, some) = inside-out rules k in (s, some, least),
    λ (s, some, least). keep-in (minimal property) (inside-in s some) least,
  )

  pub minimal-sets : (rules X : List Rule) → Among X (minimal_sets property rules) ↔ (SetInside X rules × IsMinimal property X)
  minimal-sets rules X = (
    λ m. let (s, some, least) = (among-minimal rules X).0 m in (s, minimal-out X some least),
    λ (s, least). (among-minimal rules X).1 (s, least.some, minimal-in X least),
  )

  -- no minimal set lies inside another
  pub minimal-inside : {Y X : List Rule} → IsMinimal property X → IsMinimal property Y → SetInside Y X → Y ≡ X
  minimal-inside {Y} {X} x y s =
      ⊎_elim (λ (h : length X ≤ length Y). whole-inside s h)
      (λ (h : length Y < length X). clash y.holds (x.no_smaller Y s y.some h))
      (le-or-lt (length X) (length Y))

-- another property that says the same of each non-empty set inside
module _ (property other : List Rule → Bool) where
  abbrev SameInside : List Rule → Type 0
  SameInside X = (Y : List Rule) → SetInside Y X → non_empty Y ≡ true → property Y ≡ other Y

  minimal-then : (X : List Rule) → non_empty X ≡ true → SameInside X → minimal property X ≡ true → minimal other X ≡ true
  minimal-then X some same m =
      let least = minimal-out property X some m in
      minimal-in other X
      (record {
        some = some;
        holds = sym (same X (Sublistᴰ.refl X) some) ∙ least.holds;
        no_smaller = λ Y s k l. sym (same Y s k) ∙ least.no_smaller Y s k l;
      })

pub minimal-same : (property other : List Rule → Bool) (rules : List Rule) → SameInside property other rules
    → minimal_sets property rules ≡ minimal_sets other rules
unfolding minimal_sets
minimal-same property other rules same =
    keep_same (minimal property) (minimal other) (sets_inside rules) (λ X m.
    let (s, some) = inside-out rules m in
    same_answer (minimal property X) (minimal other X)
    (minimal-then property other X some (λ Y t. same Y (Sublistᴰ.trans t s)))
    (minimal-then other property X some (λ Y t k. sym (same Y (Sublistᴰ.trans t s) k))))
