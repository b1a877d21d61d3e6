-- Claimed: where rules are present, meeting the condition is having the property, turned over or not. Proved in proofs/MeetingLaws.antt.
use Rattle.std.specs.Prelude.{Bool, not, cond, List, ◌∷◌, ◌≡◌, ℤ}
use Rattle.peal.specs.Policies.{Rule, Policy}
use Rattle.peal.specs.Score.{score_of, meets}
use Rattle.translation.specs.Translation.{turned}
use Rattle.peal.specs.Lines.{has}
use Rattle.peal.specs.declared.Sense.{Sense}

-- an answer, turned over if turned
abbrev pub turned_over : (turned answer : Bool) → Bool
turned_over turned answer = cond turned (not answer) answer

-- the score of the present rules, at least one, meets the condition exactly if they have the property, turned over where document 01 says so
abbrev pub MeetingIsHaving : Type 0
MeetingIsHaving =
    (p : Policy) (s : Sense) (t : ℤ) (r : Rule) (rs : List Rule)
    → meets s t (score_of p (r ∷ rs)) ≡ turned_over (turned s p.operator) (has p.operator t (r ∷ rs))
