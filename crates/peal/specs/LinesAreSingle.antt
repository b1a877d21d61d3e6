-- Claimed: the lines of max are the single rules with V above T, those of min the single rules with V at most T.
use Rattle.std.specs.Prelude.{Bool, true, List, [], ◌∷◌, ◌↔◌, ◌≡◌, ℤ}
use Rattle.peal.specs.Policies.{Rule}
use Rattle.peal.specs.Lines.{score_above, score_at_most, lines}
use Rattle.arith.specs.Members.{Among}
use Rattle.peal.specs.declared.Operator.TheVariants.{Min, Max}

-- X is one rule of the policy, and it passes the test
pub record Single (test : Rule → Bool) (rules X : List Rule) : Type 0 where
  pub rule : Rule
  pub itself : X ≡ rule ∷ []
  pub of_policy : Among rule rules
  pub passes : test rule ≡ true

abbrev pub LinesAreSingle : Type 0
LinesAreSingle =
    (t : ℤ) (rules X : List Rule)
    → (Among X (lines Max t rules) ↔ Single (score_above t) rules X)
    × (Among X (lines Min t rules) ↔ Single (score_at_most t) rules X)
