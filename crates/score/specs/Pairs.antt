-- Exact scores as the code keeps them: hundredths, and a remainder in parts.
use Rattle.std.specs.Fmt.{decimal, signed_decimal}
use Rattle.std.specs.Prelude.{ℕ, ◌^◌, ◌<◌, ◌≡◌, ℤ, pos, ◌+ℤ◌, List, ◌++◌, codes}
use Rattle.peal.specs.Score.{scaled}
use Rattle.score.specs.declared.exact.Exact.{Exact}

-- a pair is a score in parts: the remainder is less than a hundredth
pub record Is (x : Exact) (v : ℤ) : Type 0 where
  pub small : x.remainder < 10 ^ 14
  pub same : scaled x.hundredths +ℤ pos x.remainder ≡ v

-- so it is for each score that a pair may be
abbrev pub ForScore : Exact → (ℤ → Type 0) → Type 0
ForScore x P = (v : ℤ) → Is x v → P v

-- a pair as programs print it
abbrev pub exact_text : Exact → List ℕ
exact_text x = codes "score " ++ signed_decimal x.hundredths ++ codes " " ++ decimal x.remainder
