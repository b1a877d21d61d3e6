-- Lists whose members stand to every later one as asked.
use Rattle.std.specs.Prelude.{List, [], ◌∷◌}
use Rattle.arith.specs.Members.{Each}

abbrev pub InOrder : {A : Type 0} → (A → A → Type 0) → List A → Type 0
InOrder R [] = Unit {0}
InOrder R (x ∷ xs) = Each (R x) xs × InOrder R xs
