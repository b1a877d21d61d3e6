-- Claimed: equality is on the published side, for every operator and both senses. Proved in proofs/Equality.antt.
use Rattle.std.specs.Prelude.{ℕ, Bool, true, false, [], ◌∷◌, ◌≡◌, ℤ}
use Rattle.signals.specs.Sets.{present}
use Rattle.peal.specs.Policies.{Policy}
use Rattle.peal.specs.Score.{scaled, present_rules, policy_score, meets}
use Rattle.peal.specs.declared.Operator.{Operator}
use Rattle.peal.specs.declared.Sense.{Sense}
use Rattle.peal.specs.declared.Sense.TheVariants.{Above, AtMost}

-- whether a score that equals T meets the condition
abbrev pub equal_meets : Sense → Bool
equal_meets Above = false
equal_meets AtMost = true

-- a policy of one rule
abbrev pub one_rule : Operator → (default : ℤ) → (signal : ℕ) → (score : ℤ) → Policy
one_rule op d signal v = record { operator = op; default = d; rules = record { signal = signal; score = v } ∷ [] }

pub record EqualityIsPublished : Type 0 where
  -- a score that equals T is not above T, and is at most T
  pub of_scores : (s : Sense) (t : ℤ) → meets s t (scaled t) ≡ equal_meets s
  -- so of a policy of one rule, on a set where its signal is present, whatever the default
  pub of_policies : (op : Operator) (d : ℤ) (signal : ℕ) (v : ℤ) (set : ℕ) → present set signal ≡ true
      → (s : Sense) → meets s v (policy_score set (one_rule op d signal v)) ≡ equal_meets s
  -- and of the default of any policy, on a set where no rule is present
  pub of_defaults : (p : Policy) (set : ℕ) → present_rules set p.rules ≡ [] → (s : Sense) → meets s p.default (policy_score set p) ≡ equal_meets s
