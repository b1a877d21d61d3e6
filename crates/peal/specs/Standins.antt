-- What stands in for a rule, an exclusion or a condition that is not there.
use Rattle.std.specs.Prelude.{pos}
use Rattle.arith.specs.Trees.{leaf}
use Rattle.peal.specs.Policies.{Rule, Exclusion, Condition}
use Rattle.peal.specs.declared.Sense.TheVariants.{Above}

-- no rule
unfoldable pub no_rule : Rule
no_rule = record { signal = 0; score = pos 0 }

-- no exclusion
unfoldable pub no_exclusion : Exclusion
no_exclusion = record { first = 0; second = 0 }

-- no condition
unfoldable pub no_condition : Condition
no_condition = record { sense = Above; threshold = pos 0; expression = leaf 0 }
