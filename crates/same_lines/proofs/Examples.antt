-- Computed example: two of three marks, asked by what was found, a sum, and by the doubt that is left, a mul.
use Prim.Native.String.{String}
use mathlib.Core.Bool.{false}
use mathlib.Core.List.Permᴰ
use mathlib.Core.List.{List, [], ◌∷◌}
use mathlib.Core.Path.{refl}
use Prim.Native.Nat.{ℕ}
use Rattle.compiler.specs.Computing.{compiler_computes}
use Rattle.same_lines.specs.SameLines.{OnePolicy, DecideAlike}
use Rattle.same_lines.proofs.Compiled.{just-fits}
use Rattle.same_lines.proofs.SameLines.{same-lines-same-policy}

-- books/two_of_three.book
two_of_three : String
two_of_three = "p sum 0\nr 0 30\nr 1 30\nr 2 30\np mul 100\nr 0 40\nr 1 50\nr 2 50\nc 50 < p0\nc 30 >= p1\n"

-- the listings of its two conditions
abbrev by_finds : List ℕ
by_finds = 16 ∷ 7 ∷ 2 ∷ 0 ∷ 4 ∷ 6 ∷ 0 ∷ 3 ∷ 4 ∷ 5 ∷ 0 ∷ 4 ∷ 4 ∷ 3 ∷ 0 ∷ 0 ∷ []

abbrev by_doubt : List ℕ
by_doubt = 16 ∷ 7 ∷ 2 ∷ 0 ∷ 4 ∷ 5 ∷ 0 ∷ 3 ∷ 4 ∷ 3 ∷ 0 ∷ 4 ∷ 4 ∷ 6 ∷ 0 ∷ 0 ∷ []

finds : OnePolicy by_finds (record { quiet = false; turned = false; mask = 7; lines = 6 ∷ 5 ∷ 3 ∷ [] })
unfolding two_of_three compiler_computes
finds = just-fits two_of_three 0 4 (record { returning = refl; leaving = refl }) refl refl

doubt : OnePolicy by_doubt (record { quiet = false; turned = false; mask = 7; lines = 5 ∷ 3 ∷ 6 ∷ [] })
unfolding two_of_three compiler_computes
doubt = just-fits two_of_three 1 4 (record { returning = refl; leaving = refl }) refl refl

-- the same lines in another order, so the rod answers the same by both, whatever was found
alike-by-both : DecideAlike by_finds by_doubt
alike-by-both =
    (same-lines-same-policy.equal_mask.decided by_finds by_doubt _ _ (record { first = finds; second = doubt; equal = (refl, refl) })).1
    (Permᴰ.trans (Permᴰ.swap refl refl) (Permᴰ.cons refl (Permᴰ.swap refl refl)))
