-- What is claimed of the members of a list.
use mathlib.Core.List.{List, [], ◌∷◌, Memᴰ}
use Rattle.std.specs.Prelude.{◌≡◌}

module _ {A : Type 0} where
  -- x is a member of the list
  abbrev pub Among : A → List A → Type 0
  Among x xs = Memᴰ x xs

  -- each member has the property
  abbrev pub Each : (A → Type 0) → List A → Type 0
  Each P [] = Unit {0}
  Each P (x ∷ xs) = P x × Each P xs

  -- no two are equal
  abbrev pub Distinct : List A → Type 0
  Distinct [] = Unit {0}
  Distinct (x ∷ xs) = Each (λ (y : A). x ≡ y → ⊥) xs × Distinct xs
