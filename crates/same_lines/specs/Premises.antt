-- Claimed, as a remark: why kind and mask must be equal and, for the comparison, exclusions absent. Proved in
-- proofs/Premises.antt, each by two books whose listings are computed.
use Rattle.std.specs.Prelude.{◌≡◌}
use Rattle.same_lines.specs.SameLines.{SameKind, SameMask, SameKindAndMask, NoExclusions, DecisionsTellLines, ComparisonTellsLines}

pub record Premises : Type 0 where
  -- with equal masks but kinds 16 and 17: the same line, and two answers on the empty set
  pub quiet : DecisionsTellLines (λ p q. (p.turned ≡ q.turned) × SameMask p q) → ⊥
  -- with equal masks but kinds 16 and 18: the same line, and two answers on the set of that line
  pub turned : DecisionsTellLines (λ p q. (p.quiet ≡ q.quiet) × SameMask p q) → ⊥
  -- of kind 17 both, but with masks 1 and 3: the same line, and two answers on set 2
  pub mask : DecisionsTellLines SameKind → ⊥
  -- with an excluded pair in the first listing, or in the second: the comparison says "alike", though one policy has
  -- the line of that pair and the other none
  pub first : ComparisonTellsLines SameKindAndMask (λ listing. Unit {0}) NoExclusions → ⊥
  pub second : ComparisonTellsLines SameKindAndMask NoExclusions (λ listing. Unit {0}) → ⊥
