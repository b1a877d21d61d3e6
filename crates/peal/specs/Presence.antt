-- Which rules of a set have their signals present.
use Rattle.std.specs.Prelude.{ℕ, Bool, List}
use Rattle.arith.specs.Lists.{every, exists}
use Rattle.signals.specs.Sets.{present}
use Rattle.peal.specs.Policies.{Rule}

-- every rule of X is present
unfoldable pub all_present : ℕ → List Rule → Bool
all_present set X = every (λ r. present set r.signal) X

-- some rule of X is present
unfoldable pub some_present : ℕ → List Rule → Bool
some_present set X = exists (λ r. present set r.signal) X
