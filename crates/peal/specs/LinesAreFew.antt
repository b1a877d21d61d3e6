-- Claimed: how many lines a policy has at most.
use Rattle.std.specs.Prelude.{◌^◌, ◌≤◌, List, ℤ, length}
use Rattle.peal.specs.Policies.{Rule}
use Rattle.peal.specs.Lines.{lines}
use Rattle.peal.specs.declared.Operator.{Operator}

-- at most 2 to the number of rules; so at most 65,536 of at most 16 rules
pub record FewLines (op : Operator) (t : ℤ) (rules : List Rule) : Type 0 where
  pub of_rules : length (lines op t rules) ≤ 2 ^ length rules
  pub of_sixteen : length rules ≤ 16 → length (lines op t rules) ≤ 65536

abbrev pub LinesAreFew : Type 0
LinesAreFew = (op : Operator) (t : ℤ) (rules : List Rule) → FewLines op t rules
