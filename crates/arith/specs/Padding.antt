-- A list in a given number of cells.
use Rattle.std.specs.Prelude.{ℕ, ◌-◌, List, ◌++◌, length, replicate}

-- n cells: the list, and then z in the cells beyond it
unfoldable pub padded {ℓ} : {A : Type ℓ} → ℕ → A → List A → List A
padded n z xs = xs ++ replicate (n - length xs) z
