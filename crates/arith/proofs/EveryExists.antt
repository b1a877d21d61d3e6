-- Laws of tests over lists: that some member passes, and that every member does.
use Prim.Native.Nat.{ℕ, ◌+◌, ◌≤◌, ◌<◌}
use mathlib.Core.Bool.{Bool, true, false, not, cond, ◌&&◌, ◌||◌, or_assoc, and_assoc}
use mathlib.Core.List.{List, [], ◌∷◌, ◌++◌, map, Memᴰ}
use mathlib.Core.Path.{◌≡◌, refl, sym, ap, ap₂, ◌∙◌}
use native.Mathlib.Numerals.{add-one}
use lib.ListN.{length, get_or, drop, drop_of_length-le}
use lib.Seq.{drop-cons}
use Rattle.arith.specs.Lists.{every, exists, keep, non_empty}
use Rattle.arith.proofs.Tests.{clash, and-swap, or_right, or_swap}

module _ {A : Type 0} (test : A → Bool) where
  -- ---- some member passes

  pub exists-in : {x : A} {xs : List A} → Memᴰ x xs → test x ≡ true → exists test xs ≡ true
  exists-in (Memᴰ.head e) h = rw (sym (ap test e) ∙ h)
  exists-in (Memᴰ.tail {x = y} {xs = xs} m) h = or_right (test y) (exists test xs) (exists-in m h)

  pub exists-out : (xs : List A) → exists test xs ≡ true → (x : A) × Memᴰ x xs × (test x ≡ true)
  exists-out [] h = clash h refl
  exists-out (x ∷ xs) h = go (test x) refl h (λ k. exists-out xs k)
    where
      go : (t : Bool) → test x ≡ t → (t || exists test xs) ≡ true → (exists test xs ≡ true → (y : A) × Memᴰ y xs × (test y ≡ true))
          → (y : A) × Memᴰ y (x ∷ xs) × (test y ≡ true)
      go true e k f = (x, Memᴰ.head refl, e)
      go false e k f = let (y, m, q) = f k in (y, Memᴰ.tail m, q)

  pub exists-none : ((x : A) → test x ≡ false) → (xs : List A) → exists test xs ≡ false
  exists-none h [] = refl
  exists-none h (x ∷ xs) = rw (h x) (exists-none h xs)

  pub exists-append : (xs ys : List A) → exists test (xs ++ ys) ≡ (exists test xs || exists test ys)
  exists-append [] ys = refl
  exists-append (x ∷ xs) ys = rw (exists-append xs ys) (sym (or_assoc (test x) (exists test xs) (exists test ys)))

  -- from index i on
  module _ (xs : List A) (i : ℕ) where
    module _ (z : A) (h : i < length xs) where
      exists-from : exists test (drop i xs) ≡ (test (get_or xs i z) || exists test (drop (i + 1) xs))
      exists-from = rw (drop-cons xs i z h, add-one i)

      pub exists-here : test (get_or xs i z) ≡ true → true ≡ exists test (drop i xs)
      exists-here e = sym (exists-from ∙ ap (λ (t : Bool). t || exists test (drop (i + 1) xs)) e)

      pub exists-later : test (get_or xs i z) ≡ false → exists test (drop (i + 1) xs) ≡ exists test (drop i xs)
      exists-later e = sym (exists-from ∙ ap (λ (t : Bool). t || exists test (drop (i + 1) xs)) e)

    pub exists-left : length xs ≤ i → false ≡ exists test (drop i xs)
    exists-left h = rw (drop_of_length-le xs {i = i} h)

  -- another test that says the same of each member
  pub exists-same : (other : A → Bool) (xs : List A) → ((x : A) → Memᴰ x xs → test x ≡ other x) → exists test xs ≡ exists other xs
  exists-same other [] h = refl
  exists-same other (x ∷ xs) h = ap₂ (λ (a b : Bool). a || b) (h x (Memᴰ.head refl)) (exists-same other xs (λ y m. h y (Memᴰ.tail m)))

  -- by a test that is one of two tests
  pub exists-either : (one two : A → Bool) → ((x : A) → test x ≡ (one x || two x)) → (xs : List A) → exists test xs ≡ (exists one xs || exists two xs)
  exists-either one two h [] = refl
  exists-either one two h (x ∷ xs) = ap₂ (λ (a b : Bool). a || b) (h x) (exists-either one two h xs) ∙ go (one x) (two x) (exists one xs) (exists two xs)
    where
      go : (a b c d : Bool) → ((a || b) || (c || d)) ≡ ((a || c) || (b || d))
      go true b c d = refl
      go false b c d = or_swap b c d

  -- among those that pass another test
  pub exists-keep : (other : A → Bool) (xs : List A) → exists test (keep other xs) ≡ exists (λ x. other x && test x) xs
  exists-keep other [] = refl
  exists-keep other (x ∷ xs) = rw (sym (exists-keep other xs)) (go (other x))
    where
      go : (t : Bool) → exists test (cond t (x ∷ keep other xs) (keep other xs)) ≡ (t && test x || exists test (keep other xs))
      go true = refl
      go false = refl

  pub exists-not-every : (xs : List A) → exists test xs ≡ not (every (λ x. not (test x)) xs)
  exists-not-every [] = refl
  exists-not-every (x ∷ xs) = rw (exists-not-every xs) (go (test x) (every (λ x. not (test x)) xs))
    where
      go : (a b : Bool) → (a || not b) ≡ not (not a && b)
      go true b = refl
      go false b = refl

  -- ---- every member passes

  pub every-all : ((x : A) → test x ≡ true) → (xs : List A) → every test xs ≡ true
  every-all h [] = refl
  every-all h (x ∷ xs) = rw (h x) (every-all h xs)

  pub every_append : (xs ys : List A) → every test (xs ++ ys) ≡ (every test xs && every test ys)
  every_append [] ys = refl
  every_append (x ∷ xs) ys = rw (every_append xs ys) (sym (and_assoc (test x) (every test xs) (every test ys)))

  pub every-same : (other : A → Bool) (xs : List A) → ((x : A) → test x ≡ other x) → every test xs ≡ every other xs
  every-same other [] h = refl
  every-same other (x ∷ xs) h = ap₂ (λ (a b : Bool). a && b) (h x) (every-same other xs h)

  pub every-and : (other : A → Bool) (xs : List A) → every (λ x. test x && other x) xs ≡ (every test xs && every other xs)
  every-and other [] = refl
  every-and other (x ∷ xs) = rw (every-and other xs) (go (test x) (other x) (every test xs) (every other xs))
    where
      go : (a b c d : Bool) → (a && b && (c && d)) ≡ (a && c && (b && d))
      go true b c d = and-swap b c d
      go false b c d = refl

-- some member passes exactly if any are kept
pub exists-kept : {A : Type 0} (test : A → Bool) (xs : List A) → exists test xs ≡ non_empty (keep test xs)
exists-kept test [] = refl
exists-kept {A} test (x ∷ xs) = go (test x) (exists-kept test xs)
  where
    go : (t : Bool) → exists test xs ≡ non_empty (keep test xs) → (t || exists test xs) ≡ non_empty (cond t (x ∷ keep test xs) (keep test xs))
    go true i = refl
    go false i = i

module _ {A B : Type 0} (f : A → B) (test : B → Bool) where
  pub exists-map : (xs : List A) → exists test (map f xs) ≡ exists (λ x. test (f x)) xs
  exists-map [] = refl
  exists-map (x ∷ xs) = rw (exists-map xs)

  pub every_map : (xs : List A) → every test (map f xs) ≡ every (λ x. test (f x)) xs
  every_map [] = refl
  every_map (x ∷ xs) = rw (every_map xs)
