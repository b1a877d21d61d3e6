-- Claimed: a policy's lines, in rank order, decide the property of its present rules, in book order, where there are any. Proved in proofs/InsideLaws.antt.
use Rattle.std.specs.Prelude.{ℕ, ◌&&◌, List, ◌≡◌, ℤ}
use Rattle.arith.specs.Lists.{exists, non_empty}
use Rattle.peal.specs.Policies.{Rule}
use Rattle.peal.specs.Score.{present_rules}
use Rattle.peal.specs.Lines.{lines, has}
use Rattle.peal.specs.Presence.{all_present}
use Rattle.peal.specs.SearchFindsLines.{RulesFit}
use Rattle.peal.specs.declared.Operator.{Operator}

-- some line lies wholly inside the present rules exactly if there are present rules and they have the property
abbrev pub LinesDecide : Type 0
LinesDecide =
    (o : Operator) (t : ℤ) (rules : List Rule) (set : ℕ) → RulesFit o rules
    → exists (all_present set) (lines o t rules) ≡ (non_empty (present_rules set rules) && has o t (present_rules set rules))
