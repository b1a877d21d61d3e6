-- Texts compared byte by byte.
use Rattle.std.proofs.Common.{ℕ, ◌≡◌, ◌+◌, ◌-◌, ◌≤◌, ◌<◌, ◌++◌, Bool, true, false, List, [], ◌∷◌, length, take, drop, refl, sym, ap, ap₂, ◌∙◌, eqb, arith}
use Rattle.std.proofs.lemmas.Bool.{eqb-true, eq-eqb}
use Rattle.std.specs.Cmp.Lexicographic.{pointwise}

pub same-bytes : (xs ys : List ℕ) → pointwise eqb xs ys ≡ true → xs ≡ ys
same-bytes [] [] e = refl
same-bytes [] (y ∷ ys) e = cc
same-bytes (x ∷ xs) [] e = cc
same-bytes (x ∷ xs) (y ∷ ys) e = grind (arith, same-bytes xs ys, eqb-true x y)

pub bytes-same : (xs : List ℕ) → pointwise eqb xs xs ≡ true
bytes-same [] = refl
bytes-same (x ∷ xs) = rw (eq-eqb x x refl) (bytes-same xs)
