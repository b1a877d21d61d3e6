-- Claimed: the lines of a policy are exactly its minimal sets, each once, in falling order of the sum of 2 to the rank, for each operator.
use Rattle.std.specs.Prelude.{◌<◌, true, List, map, ◌↔◌, ◌≡◌, ℤ}
use Rattle.arith.specs.Lists.{non_empty}
use Rattle.arith.specs.Members.{Among, Distinct}
use Rattle.arith.specs.InOrder.{InOrder}
use Rattle.peal.specs.Policies.{Rule}
use Rattle.peal.specs.Ranking.{ranked}
use Rattle.peal.specs.Ranks.{rank_sum}
use Rattle.peal.specs.Lines.{minimal, has, lines}
use Rattle.peal.specs.SetsOfRules.{SetInside}
use Rattle.peal.specs.declared.Operator.{Operator}

pub record MinimalLines (op : Operator) (t : ℤ) (rules : List Rule) : Type 0 where
  -- "a line for each minimal set of its rules", and for no other
  pub exactly : (X : List Rule) → Among X (lines op t rules)
      ↔ (SetInside X (ranked op rules) × (non_empty X ≡ true) × (minimal (has op t) X ≡ true))
  -- no line stands there twice
  pub once : Distinct (lines op t rules)
  -- "lines stand in falling order of the sum of 2 to the rank over their rules"
  pub falling : InOrder (λ (X Y : List Rule). rank_sum op rules Y < rank_sum op rules X) (lines op t rules)

abbrev pub LinesAreMinimal : Type 0
LinesAreMinimal =
    (op : Operator) (t : ℤ) (rules : List Rule) → Distinct (map (λ (r : Rule). r.signal) rules) → MinimalLines op t rules
