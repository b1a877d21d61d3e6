-- What a call returned is packed as its answer, whatever it is refused for.
use Prim.Native.Nat.{ℕ, ◌<◌}
use mathlib.Core.Path.{◌≡◌, sym, ap, ◌∙◌}
use native.Mathlib.Omega.{arith}
use Rattle.std.specs.Prelude.{Result, Ok, Err}
use Rattle.std.specs.Result.{MatchResult, IfErr}
use Rattle.answers.specs.Answers.{Answer, result, refused}
use Rattle.exports.specs.Packing.{value_end, as_one, packed}
use Rattle.exports.proofs.Refusals.{Refuses, in_table}

module _ {A E : Type 0} (meaning : Result A E → Answer A) {number value : E → ℕ}
    (oks : (x : A) → meaning (Ok x) ≡ result x) (errs : (e : E) → meaning (Err e) ≡ refused (number e) (value e)) where
  -- the value of a refusal has its bits
  pub value-fits : {from to most : ℕ} (r : Result A E) {a : Answer A} → meaning r ≡ a → Refuses from to most a → most < value_end → IfErr r (λ e. value e < value_end)
  value-fits (Ok x) h f l = tt
  value-fits (Err e) h f l = omega (arith, in_table f (sym (errs e) ∙ h))

  pub packed-as : (value_of : A → ℕ) (r : Result A E) {a : Answer A} {n : ℕ} → meaning r ≡ a
      → MatchResult r (λ x. n ≡ as_one 0 (value_of x)) (λ e. n ≡ as_one (number e) (value e)) → n ≡ packed value_of a
  unfolding packed
  packed-as value_of (Ok x) h p = p ∙ ap (packed value_of) (sym (oks x) ∙ h)
  packed-as value_of (Err e) h p = p ∙ ap (packed value_of) (sym (errs e) ∙ h)
