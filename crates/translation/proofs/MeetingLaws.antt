-- Meeting the condition is having the property, turned over or not: one fact for each operator, and the other sense from it.
use mathlib.Core.Bool.{Bool, not, or-false, ◌||◌}
use mathlib.Core.List.{List, [], ◌∷◌}
use mathlib.Core.Path.{◌≡◌, refl, sym, ap, ◌∙◌}
use lib.Dec.{lit<}
use lib.IntN.{ℤ}
use lib.Signed.{le_z, lt_z}
use Rattle.arith.specs.Lists.{exists}
use Rattle.arith.proofs.Order.{lt_z-not, le_z-scale, lt_z-scale}
use Rattle.peal.specs.Policies.{Rule, smaller, larger}
use Rattle.peal.specs.Score.{scaled, total, of_all, applied, score_of, meets}
use Rattle.peal.specs.Lines.{has}
use Rattle.translation.specs.Translation.{quiet, turned}
use Rattle.translation.specs.MeetingIsHaving.{turned_over, MeetingIsHaving}
use Rattle.translation.specs.QuietIsMeeting.{QuietIsMeeting}
use Rattle.peal.specs.declared.Operator.{Operator}
use Rattle.peal.specs.declared.Operator.TheVariants.{Min, Max, Sum, Mul}
use Rattle.peal.specs.declared.Sense.{Sense}
use Rattle.peal.specs.declared.Sense.TheVariants.{Above, AtMost}
use Rattle.peal.proofs.TwoLaws.{not_lt_z, larger-above, smaller-at-most}

-- the order in parts is the order in hundredths
above-scaled : (a b : ℤ) → lt_z (scaled a) (scaled b) ≡ lt_z a b
unfolding scaled
above-scaled a b = lt_z-scale a b 100000000000000 (lit< tt)

at-most-scaled : (a b : ℤ) → le_z (scaled a) (scaled b) ≡ le_z a b
unfolding scaled
at-most-scaled a b = le_z-scale a b 100000000000000 (lit< tt)

-- ---- the sense in which each operator has its property

module _ (t : ℤ) where
  sum-has : (r : Rule) (rs : List Rule) → meets Above t (applied Sum r rs) ≡ has Sum t (r ∷ rs)
  unfolding meets applied has
  sum-has r rs = above-scaled t (total (r ∷ rs))

  mul-has : (r : Rule) (rs : List Rule) → meets AtMost t (applied Mul r rs) ≡ has Mul t (r ∷ rs)
  unfolding meets applied has
  mul-has r rs = refl

  largest-above : (r : Rule) (rs : List Rule) → lt_z t (of_all larger r rs) ≡ exists (λ (q : Rule). lt_z t q.score) (r ∷ rs)
  unfolding of_all
  largest-above r [] = sym (or-false (lt_z t r.score))
  largest-above r (q ∷ rs) = larger-above t r.score (of_all larger q rs) ∙ ap (λ (b : Bool). lt_z t r.score || b) (largest-above q rs)

  max-has : (r : Rule) (rs : List Rule) → meets Above t (applied Max r rs) ≡ has Max t (r ∷ rs)
  unfolding meets applied has
  max-has r rs = above-scaled t (of_all larger r rs) ∙ largest-above r rs

  smallest-at-most : (r : Rule) (rs : List Rule) → le_z (of_all smaller r rs) t ≡ exists (λ (q : Rule). le_z q.score t) (r ∷ rs)
  unfolding of_all
  smallest-at-most r [] = sym (or-false (le_z r.score t))
  smallest-at-most r (q ∷ rs) = smaller-at-most t r.score (of_all smaller q rs) ∙ ap (λ (b : Bool). le_z r.score t || b) (smallest-at-most q rs)

  min-has : (r : Rule) (rs : List Rule) → meets AtMost t (applied Min r rs) ≡ has Min t (r ∷ rs)
  unfolding meets applied has
  min-has r rs = at-most-scaled (of_all smaller r rs) t ∙ smallest-at-most r rs

  -- ---- the other sense is that one turned over

  not-at-most : (x : ℤ) → meets Above t x ≡ not (meets AtMost t x)
  unfolding meets
  not-at-most x = lt_z-not (scaled t) x

  not-above : (x : ℤ) → meets AtMost t x ≡ not (meets Above t x)
  unfolding meets
  not-above x = not_lt_z x (scaled t)

  having : (o : Operator) (s : Sense) (r : Rule) (rs : List Rule) → meets s t (applied o r rs) ≡ turned_over (turned s o) (has o t (r ∷ rs))
  unfolding turned
  having Sum Above r rs = sum-has r rs
  having Max Above r rs = max-has r rs
  having Mul AtMost r rs = mul-has r rs
  having Min AtMost r rs = min-has r rs
  having Sum AtMost r rs = not-above (applied Sum r rs) ∙ ap not (sum-has r rs)
  having Max AtMost r rs = not-above (applied Max r rs) ∙ ap not (max-has r rs)
  having Mul Above r rs = not-at-most (applied Mul r rs) ∙ ap not (mul-has r rs)
  having Min Above r rs = not-at-most (applied Min r rs) ∙ ap not (min-has r rs)

pub meeting-is-having : MeetingIsHaving
unfolding score_of
meeting-is-having p s t r rs = having t p.operator s r rs

pub quiet-is-meeting : QuietIsMeeting
unfolding quiet score_of
quiet-is-meeting p s t = refl
