-- Claimed: the search finds exactly the minimal sets, in their order.
use Rattle.std.specs.Prelude.{Bool, true, List, [], ◌∷◌, ◌++◌, ◌≡◌}
use Rattle.peal.specs.Policies.{Rule}
use Rattle.peal.specs.Lines.{minimal_sets}
use Rattle.peal.specs.SetsOfRules.{SetInside}
use Rattle.peal.specs.Search.{found_sets}

-- what is asked of a property of the sets inside some rules in falling rank
pub record Persists (property : List Rule → Bool) (rules : List Rule) : Type 0 where
  -- a set that has it keeps it when a rule r is added
  pub added : (X Y : List Rule) (r : Rule) → SetInside (X ++ (r ∷ Y)) rules
      → property (X ++ Y) ≡ true → property (X ++ (r ∷ Y)) ≡ true
  -- and when its last rule b is exchanged for a rule a of higher rank
  pub exchanged : (X Y : List Rule) (a b : Rule) → SetInside (X ++ (a ∷ (Y ++ (b ∷ [])))) rules
      → property (X ++ (Y ++ (b ∷ []))) ≡ true → property (X ++ (a ∷ Y)) ≡ true

abbrev pub SearchFindsMinimal : Type 0
SearchFindsMinimal =
    (property : List Rule → Bool) (rules : List Rule) → Persists property rules → found_sets property rules ≡ minimal_sets property rules
