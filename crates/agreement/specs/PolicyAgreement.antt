-- Claimed for one policy: what the rod reads in its record is what the condition says of its score. Proved in proofs/Policies.antt.
use Rattle.std.specs.Prelude.{ℕ, true, false, ◌≡◌, ℤ}
use Rattle.signals.specs.Sets.{overlap}
use Rattle.rod.specs.Reading.{some_line, policy_value}
use Rattle.peal.specs.Policies.{Policy, mask_of}
use Rattle.peal.specs.Score.{policy_score, meets}
use Rattle.translation.specs.Translation.{quiet, turned, listed}
use Rattle.translation.specs.MeetingIsHaving.{turned_over}
use Rattle.peal.specs.declared.Sense.{Sense}
use Rattle.book.specs.Ranges.{PolicyInRange}

-- on a set that meets the policy: some line lies inside the set, turned over where document 01 says so, exactly if the present rules' score meets the condition
abbrev pub LinesAgreement : Type 0
LinesAgreement =
    (p : Policy) (s : Sense) (t : ℤ) (set : ℕ) → PolicyInRange p → overlap (mask_of p.rules) set ≡ true
    → turned_over (turned s p.operator) (some_line (listed s t p).lines set) ≡ meets s t (policy_score set p)

-- on a set that meets no rule: quiet says whether the default meets the condition
abbrev pub QuietAgreement : Type 0
QuietAgreement =
    (p : Policy) (s : Sense) (t : ℤ) (set : ℕ) → PolicyInRange p → overlap (mask_of p.rules) set ≡ false
    → quiet s t p ≡ meets s t (policy_score set p)

-- on every set
abbrev pub PolicyAgreement : Type 0
PolicyAgreement = (p : Policy) (s : Sense) (t : ℤ) (set : ℕ) → PolicyInRange p → policy_value set (listed s t p) ≡ meets s t (policy_score set p)
