-- Where the readers of one field look.
use Rattle.std.specs.Prelude.{ℕ, suc, cond, List, [], ◌∷◌, eqb}

-- how many bytes of s stand before the first x; all of them where there is none
unfoldable pub up_to : ℕ → List ℕ → ℕ
up_to x [] = 0
up_to x (b ∷ s) = cond (eqb b x) 0 (suc (up_to x s))
