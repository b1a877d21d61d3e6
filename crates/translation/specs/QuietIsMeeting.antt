-- Claimed: where no rule is present, quiet says whether the score meets the condition. Proved in proofs/MeetingLaws.antt.
use Rattle.std.specs.Prelude.{[], ◌≡◌, ℤ}
use Rattle.peal.specs.Policies.{Policy}
use Rattle.peal.specs.Score.{score_of, meets}
use Rattle.translation.specs.Translation.{quiet}
use Rattle.peal.specs.declared.Sense.{Sense}

abbrev pub QuietIsMeeting : Type 0
QuietIsMeeting = (p : Policy) (s : Sense) (t : ℤ) → quiet s t p ≡ meets s t (score_of p [])
