-- Tests over lists, and lists made from lists.
use Rattle.std.specs.Prelude.{ℕ, zero, suc, Bool, true, false, cond, ◌&&◌, ◌||◌, List, [], ◌∷◌, ◌++◌, map, length}

module _ {A : Type 0} where
  -- every member passes the test
  abbrev pub every : (A → Bool) → List A → Bool
  every test [] = true
  every test (x ∷ xs) = test x && every test xs

  -- at least one member passes the test
  abbrev pub exists : (A → Bool) → List A → Bool
  exists test [] = false
  exists test (x ∷ xs) = test x || exists test xs

  -- the members that pass the test, in their order
  abbrev pub keep : (A → Bool) → List A → List A
  keep test [] = []
  keep test (x ∷ xs) = cond (test x) (x ∷ keep test xs) (keep test xs)

  -- there is a member
  abbrev pub non_empty : List A → Bool
  non_empty [] = false
  non_empty (x ∷ xs) = true

  -- every list that leaves out some members, or none: those with the first member before those without it
  abbrev pub subsets : List A → List (List A)
  subsets [] = [] ∷ []
  subsets (x ∷ xs) = map (λ Y. x ∷ Y) (subsets xs) ++ subsets xs

-- the numbers below n, falling: n - 1, .. 1, 0
abbrev pub below : ℕ → List ℕ
below zero = []
below (suc n) = n ∷ below n

-- how many of the numbers below n pass the test
unfoldable pub count_below : ℕ → (ℕ → Bool) → ℕ
count_below n test = length (keep test (below n))
