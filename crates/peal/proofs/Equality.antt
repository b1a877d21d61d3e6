-- Equality is on the published side, for every operator and both senses: a score that equals T is not above T, and is at most T.
use Prim.Native.Nat.{ℕ}
use mathlib.Core.Bool.{true, not}
use mathlib.Core.List.{[]}
use mathlib.Core.Path.{◌≡◌, refl, ap, ◌∙◌}
use lib.IntN.{ℤ, +ℤ_idr}
use Rattle.arith.proofs.Order.{lt_z-not, le_z-refl, scale-scale}
use Rattle.signals.specs.Sets.{present}
use Rattle.peal.specs.Policies.{Policy}
use Rattle.peal.specs.Score.{scaled, present_rules, total, score_product, scaled_product, of_all, applied, score_of, policy_score, meets}
use Rattle.peal.specs.EqualityIsPublished.{equal_meets, one_rule, EqualityIsPublished}
use Rattle.peal.specs.declared.Operator.{Operator}
use Rattle.peal.specs.declared.Operator.TheVariants.{Min, Max, Sum, Mul}
use Rattle.peal.specs.declared.Sense.{Sense}
use Rattle.peal.specs.declared.Sense.TheVariants.{Above, AtMost}

equal-meets : (s : Sense) (t : ℤ) → meets s t (scaled t) ≡ equal_meets s
unfolding meets
equal-meets Above t = lt_z-not (scaled t) (scaled t) ∙ ap not (le_z-refl (scaled t))
equal-meets AtMost t = le_z-refl (scaled t)

-- where its signal is present, a policy of one rule scores what the rule does, whatever the operator and the default
one-score : (op : Operator) (d : ℤ) (signal : ℕ) (v : ℤ) (set : ℕ) → present set signal ≡ true → policy_score set (one_rule op d signal v) ≡ scaled v
unfolding policy_score present_rules score_of applied of_all total score_product scaled_product scaled
one-score Min d signal v set here = rw here refl
one-score Max d signal v set here = rw here refl
one-score Sum d signal v set here = rw (here, +ℤ_idr v) refl
one-score Mul d signal v set here = rw here (scale-scale v 1 100000000000000)

-- where no rule is present, a policy scores its default
default-score : (p : Policy) (set : ℕ) → present_rules set p.rules ≡ [] → policy_score set p ≡ scaled p.default
unfolding policy_score score_of
default-score p set none = rw none refl

pub equality-is-published : EqualityIsPublished
equality-is-published =
    record {
      of_scores = equal-meets;
      of_policies = λ op d signal v set here s. ap (meets s v) (one-score op d signal v set here) ∙ equal-meets s v;
      of_defaults = λ p set none s. ap (meets s p.default) (default-score p set none) ∙ equal-meets s p.default;
    }
