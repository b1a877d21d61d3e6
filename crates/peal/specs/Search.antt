-- The search for minimal sets (document 000, figure 5, but for its test of the empty set; document 01, "The enumeration of sets goes by recursion on a falling rank").
use Rattle.std.specs.Prelude.{Bool, cond, List, [], ◌∷◌, ◌++◌}
use Rattle.peal.specs.Policies.{Rule}

-- The sets found beyond X, the rules taken so far, with the rules still to come in falling rank. If not even X with all of them has the property,
-- nothing is found. Otherwise the next rule is taken: if X with it has the property, that set is found and not extended, and if not, the search goes
-- on from it. Then the rule is left out, and the search goes on from X.
unfoldable pub found_from : (List Rule → Bool) → List Rule → List Rule → List (List Rule)
found_from property X [] = []
found_from property X (r ∷ rest) =
    let Y = X ++ (r ∷ []) in
    cond (property (X ++ (r ∷ rest))) (cond (property Y) (Y ∷ []) (found_from property Y rest) ++ found_from property X rest) []

-- the sets found among rules in falling rank: the search begins with no rule taken
unfoldable pub found_sets : (List Rule → Bool) → List Rule → List (List Rule)
found_sets property rules = found_from property [] rules
