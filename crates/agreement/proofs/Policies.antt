-- The rod's reading of a policy's record is the condition on its score.
use Prim.Native.Nat.{ℕ}
use mathlib.Core.Bool.{Bool, true, false, cond, ◌&&◌}
use mathlib.Core.List.{List, [], ◌∷◌}
use mathlib.Core.Path.{◌≡◌, refl, sym, ap, ◌∙◌}
use lib.IntN.{ℤ}
use Rattle.arith.specs.Lists.{non_empty}
use Rattle.arith.proofs.EveryExists.{exists-kept}
use Rattle.arith.proofs.Tests.{clash}
use Rattle.signals.specs.Sets.{present, overlap}
use Rattle.rod.specs.Reading.{some_line, policy_value}
use Rattle.peal.specs.Policies.{Rule, Policy, mask_of}
use Rattle.peal.specs.Score.{present_rules, score_of, policy_score, meets}
use Rattle.translation.specs.Translation.{quiet, turned, listed}
use Rattle.peal.specs.Lines.{has}
use Rattle.peal.specs.Presence.{some_present}
use Rattle.translation.specs.MeetingIsHaving.{turned_over}
use Rattle.peal.specs.SearchFindsLines.{RulesFit}
use Rattle.peal.specs.MasksDecide.{SignalsFit}
use Rattle.peal.specs.declared.Sense.{Sense}
use Rattle.peal.proofs.InsideLaws.{lines-decide}
use Rattle.peal.proofs.MaskLaws.{masks-decide, masks-inside}
use Rattle.translation.proofs.MeetingLaws.{meeting-is-having, quiet-is-meeting}
use Rattle.book.specs.Ranges.{PolicyInRange}
use Rattle.book.proofs.ScoreSizes.{range-fits}
use Rattle.agreement.specs.PolicyAgreement.{LinesAgreement, QuietAgreement, PolicyAgreement}

-- ---- what document 01's ranges give

pub signals-fit : (p : Policy) → PolicyInRange p → SignalsFit p.rules
signals-fit p h = record { below = h.signals; different = h.distinct }

pub rules-fit : (p : Policy) → PolicyInRange p → RulesFit p.operator p.rules
rules-fit p h = range-fits p.operator p.rules h.scores h.room

-- ---- the two halves

module _ (p : Policy) (s : Sense) (t : ℤ) (set : ℕ) (h : PolicyInRange p) where
  -- the mask shares a signal with the set exactly if some rule is present
  pub shared : overlap (mask_of p.rules) set ≡ non_empty (present_rules set p.rules)
  unfolding present_rules some_present
  shared = (masks-decide p.rules set (signals-fit p h)).1 ∙ exists-kept (λ r. present set r.signal) p.rules

  -- some line lies inside the set exactly if there are present rules and they have the property
  pub line-inside : some_line (listed s t p).lines set ≡ (non_empty (present_rules set p.rules) && has p.operator t (present_rules set p.rules))
  unfolding some_line listed
  line-inside =
      masks-inside p.operator t p.rules (signals-fit p h) set
      ∙ lines-decide p.operator t p.rules set (rules-fit p h)

pub lines-agreement : LinesAgreement
unfolding policy_score
lines-agreement p s t set h e = go (present_rules set p.rules) refl
  where
    go : (X : List Rule) → present_rules set p.rules ≡ X → turned_over (turned s p.operator) (some_line (listed s t p).lines set) ≡ meets s t (policy_score set p)
    go [] f = clash e (shared p s t set h ∙ ap non_empty f)
    go (r ∷ rs) f =
        ap (turned_over (turned s p.operator)) (line-inside p s t set h ∙ ap (λ (X : List Rule). non_empty X && has p.operator t X) f)
        ∙ sym (meeting-is-having p s t r rs) ∙ ap (λ (X : List Rule). meets s t (score_of p X)) (sym f)

pub quiet-agreement : QuietAgreement
unfolding policy_score
quiet-agreement p s t set h e = go (present_rules set p.rules) refl
  where
    go : (X : List Rule) → present_rules set p.rules ≡ X → quiet s t p ≡ meets s t (policy_score set p)
    go [] f = quiet-is-meeting p s t ∙ ap (λ (X : List Rule). meets s t (score_of p X)) (sym f)
    go (r ∷ rs) f = clash (shared p s t set h ∙ ap non_empty f) e

pub policy-agreement : PolicyAgreement
unfolding policy_value listed
policy-agreement p s t set h = go (overlap (mask_of p.rules) set) refl
  where
    go : (b : Bool) → overlap (mask_of p.rules) set ≡ b
        → cond b (turned_over (turned s p.operator) (some_line (listed s t p).lines set)) (quiet s t p) ≡ meets s t (policy_score set p)
    go true e = lines-agreement p s t set h e
    go false e = quiet-agreement p s t set h e
