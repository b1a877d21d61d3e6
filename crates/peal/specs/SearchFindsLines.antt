-- Claimed: for each operator, the search over the ranked rules finds exactly the lines, in their order.
use Rattle.std.specs.Prelude.{◌≤◌, Bool, true, ◌&&◌, List, ◌≡◌, ℤ, pos, length}
use Rattle.std.specs.Int.Signed.{le_z}
use Rattle.arith.specs.Members.{Each}
use Rattle.peal.specs.Policies.{Rule}
use Rattle.peal.specs.Ranking.{ranked}
use Rattle.peal.specs.Lines.{lines, has}
use Rattle.peal.specs.Search.{found_sets}
use Rattle.peal.specs.declared.Operator.{Operator}
use Rattle.peal.specs.declared.Operator.TheVariants.{Min, Max, Sum, Mul}

-- what the search needs of document 01's ranges: V is at least 0 in sum, 0 to 100 in mul
unfoldable pub score_fits : Operator → ℤ → Bool
score_fits Sum v = le_z (pos 0) v
score_fits Mul v = le_z (pos 0) v && le_z v (pos 100)
score_fits Max v = true
score_fits Min v = true

-- and a mul policy has at most 8 rules
pub record RulesFit (op : Operator) (rules : List Rule) : Type 0 where
  pub scores : Each (λ (r : Rule). score_fits op r.score ≡ true) rules
  pub room : op ≡ Mul → length rules ≤ 8

abbrev pub SearchFindsLines : Type 0
SearchFindsLines =
    (op : Operator) (t : ℤ) (rules : List Rule) → RulesFit op rules → found_sets (has op t) (ranked op rules) ≡ lines op t rules
