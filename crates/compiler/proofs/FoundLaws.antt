-- What is found from a point of the search on.
use Prim.Native.Nat.{ℕ, suc, ◌+◌, ◌^◌, ◌≤◌}
use mathlib.Core.Bool.{Bool, true, false, cond}
use mathlib.Core.List.{List, [], ◌∷◌, ◌++◌}
use mathlib.Core.Path.{◌≡◌, ap, ◌∙◌}
use native.Mathlib.Nat.{le_trans, pow-suc, pow-le-pow_right}
use native.Mathlib.Omega.{arith}
use lib.ListN.{length, length-append}
use Rattle.peal.specs.Policies.{Rule}
use Rattle.peal.specs.Search.{found_from}
use Rattle.compiler.specs.Planning.{rest_of}
use Rattle.compiler.specs.Searching.{Point, having, all_at, taking, found, Searching}
use Rattle.compiler.specs.declared.planning.Plan.{Plan}
use Rattle.compiler.specs.declared.searching.Taken.{Taken}
use Rattle.compiler.proofs.RestLaws.{no-rest}
use Rattle.compiler.proofs.PointLaws.{all-range, coming}

-- ---- how many sets are found: at most one for each set of the rules still to come

from-few : (property : List Rule → Bool) (X rest : List Rule) → length (found_from property X rest) ≤ 2 ^ length rest
unfolding found_from
from-few property X [] = omega arith
from-few property X (r ∷ rest) = go (property (X ++ (r ∷ rest))) (property Y) (from-few property Y rest) (from-few property X rest)
  where
    Y : List Rule
    Y = X ++ (r ∷ [])

    some : 1 ≤ 2 ^ length rest
    some = let h : 0 ≤ length rest = omega arith in pow-le-pow_right {n = 2} (omega arith) h

    -- with the next rule, and without it
    both : (F : List (List Rule)) → length F ≤ 2 ^ length rest → length (found_from property X rest) ≤ 2 ^ length rest
        → length (F ++ found_from property X rest) ≤ 2 ^ suc (length rest)
    both F m n = omega (arith, m, n, pow-suc 2 (length rest), length-append F (found_from property X rest))

    go : (a b : Bool) → length (found_from property Y rest) ≤ 2 ^ length rest → length (found_from property X rest) ≤ 2 ^ length rest
        → length (cond a (cond b (Y ∷ []) (found_from property Y rest) ++ found_from property X rest) []) ≤ 2 ^ suc (length rest)
    go true true m n = both (Y ∷ []) some n
    go true false m n = both (found_from property Y rest) m n
    go false b m n = omega arith

pub found-few : {plan : Plan} {taken : Taken} {left : ℕ} {p : Point} → Searching plan taken left p → length (found p left) ≤ 65536
unfolding found
found-few {left = left} {p = p} h =
    let rest = rest_of left p.policy.rules in
    let few : length rest ≤ 16 = omega (arith, length-append p.taken rest, (all-range h).few) in
    le_trans (from-few (having p) p.taken rest) (pow-le-pow_right {n = 2} (omega arith) few)

-- ---- one step

-- what is found once a set is tried: the set alone where it has the property, and otherwise what is found beyond it
pub tried : Point → ℕ → List (List Rule)
tried p left = cond (having p p.taken) (p.taken ∷ []) (found p left)

pub tried-itself : (p : Point) (left : ℕ) → having p p.taken ≡ true → tried p left ≡ p.taken ∷ []
unfolding tried
tried-itself p left h = rw h

pub tried-further : (p : Point) (left : ℕ) → having p p.taken ≡ false → tried p left ≡ found p left
unfolding tried
tried-further p left h = rw h

module _ {plan : Plan} {taken : Taken} (left : ℕ) {p : Point} (h : Searching plan taken (left + 1) p) where
  -- by whether all the rules have the property
  found-by : {b : Bool} → having p (all_at p (left + 1)) ≡ b → found p (left + 1) ≡ cond b (tried (taking p (left + 1)) left ++ found p left) []
  unfolding found tried found_from
  found-by e = rw (coming left h, rw (coming left h) at e)

  pub nothing-found : having p (all_at p (left + 1)) ≡ false → found p (left + 1) ≡ []
  nothing-found e = found-by e

  pub found-further : having p (all_at p (left + 1)) ≡ true → found p (left + 1) ≡ tried (taking p (left + 1)) left ++ found p left
  found-further e = found-by e

pub found_none : (p : Point) (k : ℕ) → k ≤ 0 → found p k ≡ []
unfolding found found_from
found_none p k z =
    let e : k ≡ 0 = omega arith in
    ap (found_from (having p) p.taken) (ap (λ (n : ℕ). rest_of n p.policy.rules) e ∙ no-rest p.policy.rules)
