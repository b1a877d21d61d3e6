-- A list has a member exactly if its length is above 0.
use Prim.Native.Nat.{◌<◌}
use mathlib.Core.Bool.{true}
use mathlib.Core.List.{List, [], ◌∷◌, Sublistᴰ}
use mathlib.Core.Path.{◌≡◌, refl}
use native.Mathlib.Omega.{arith}
use lib.ListN.{length}
use Rattle.arith.specs.Lists.{non_empty}
use Rattle.arith.proofs.Sublists.{inside-length}
use Rattle.arith.proofs.Tests.{clash}

module _ {A : Type 0} where
  pub some-long : (xs : List A) → non_empty xs ≡ true → 0 < length xs
  some-long [] h = clash h refl
  some-long (x ∷ xs) h = omega arith

  pub long-some : (xs : List A) → 0 < length xs → non_empty xs ≡ true
  long-some [] h = absurd (omega arith)
  long-some (x ∷ xs) h = refl

  -- so has a list around one that has
  pub some-around : {Y X : List A} → Sublistᴰ Y X → non_empty Y ≡ true → non_empty X ≡ true
  some-around {Y} {X} s h = long-some X (omega (arith, inside-length s, some-long Y h))
