-- Claimed: masks say which rules are present. Proved in proofs/MaskLaws.antt.
use Rattle.std.specs.Prelude.{ℕ, ◌<◌, List, map, ◌≡◌}
use Rattle.arith.specs.Members.{Each, Distinct}
use Rattle.signals.specs.Sets.{inside, overlap}
use Rattle.peal.specs.Policies.{Rule, mask_of}
use Rattle.peal.specs.Presence.{all_present, some_present}

-- the signals of some rules are 0 to 15, and all different
pub record SignalsFit (X : List Rule) : Type 0 where
  pub below : Each (◌< 16) (map (λ (r : Rule). r.signal) X)
  pub different : Distinct (map (λ (r : Rule). r.signal) X)

-- the mask of some rules lies wholly inside the set exactly if every one of them is present, and shares a signal with it exactly if some one is
abbrev pub MasksDecide : Type 0
MasksDecide =
    (X : List Rule) (set : ℕ) → SignalsFit X
    → (inside (mask_of X) set ≡ all_present set X) × (overlap (mask_of X) set ≡ some_present set X)
