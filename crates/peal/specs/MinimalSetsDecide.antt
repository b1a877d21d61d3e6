-- Claimed: the minimal sets decide a property that adding rules keeps, where some rule is present. Proved in proofs/InsideLaws.antt.
use Rattle.std.specs.Prelude.{ℕ, Bool, true, ◌&&◌, List, ◌≡◌}
use Rattle.arith.specs.Lists.{exists, non_empty}
use Rattle.peal.specs.Policies.{Rule}
use Rattle.peal.specs.Score.{present_rules}
use Rattle.peal.specs.Lines.{minimal_sets}
use Rattle.peal.specs.SetsOfRules.{SetInside}
use Rattle.peal.specs.Presence.{all_present}

-- adding rules keeps the property: X has it where a set inside X has it
abbrev pub AddingKeeps : (List Rule → Bool) → List Rule → Type 0
AddingKeeps property X = (Y : List Rule) → SetInside Y X → property Y ≡ true → property X ≡ true

-- some minimal set lies wholly inside the present rules exactly if there are present rules and they have the property
abbrev pub MinimalSetsDecide : Type 0
MinimalSetsDecide =
    (property : List Rule → Bool) (rules : List Rule) (set : ℕ) → AddingKeeps property (present_rules set rules)
    → exists (all_present set) (minimal_sets property rules) ≡ (non_empty (present_rules set rules) && property (present_rules set rules))
