-- Answers: results, refusals passed up, and what an answer means.
use Prim.Native.Nat.{ℕ}
use mathlib.Core.Bool.{Bool, true, false}
use mathlib.Core.Path.{◌≡◌, refl, sym, ap, ◌∙◌}
use native.Mathlib.Omega.{arith}
use Rattle.answers.specs.Answers.{Answer, result, refused, on_result, require}

pub no-refusal : {X A : Type 0} {a : A} {k v : ℕ} → result a ≡ refused k v → X
no-refusal h = let z : ◌≡◌ {A = ℕ} 0 1 = cc in absurd (omega arith)

pub result-is : {A : Type 0} {x y : A} → result x ≡ result y → x ≡ y
result-is h = cc

-- what is known of an answer by its meaning, where it is known which answer it is
pub in-arm : {E A : Type 0} (meaning : E → A) {x v : E} {a : A} → meaning x ≡ a → x ≡ v → meaning v ≡ a
in-arm meaning h e = sym (ap meaning e) ∙ h

-- a required test holds, and the result is what follows it
pub required : {A : Type 0} (t : Bool) (k v : ℕ) (a : Answer A) (x : A) → require t k v a ≡ result x → (t ≡ true) × (a ≡ result x)
required true k v a x h = (refl, h)
required false k v a x h = no-refusal (sym h)

-- a result that was gone on to comes from a result
pub gone-on : {A B : Type 0} (a : Answer A) (f : A → Answer B) (y : B) → on_result a f ≡ result y → (x : A) × (a ≡ result x) × (f x ≡ result y)
gone-on (result x) f y h = (x, refl, h)
gone-on (refused k v) f y h = no-refusal (sym h)

-- equal answers are gone on from alike; where the second is known, that is to its result or its refusal
pub on-equal : {A B : Type 0} {a b : Answer A} (f : A → Answer B) → a ≡ b → on_result b f ≡ on_result a f
on-equal {A} f e = sym (ap (λ (x : Answer A). on_result x f) e)

-- a refusal where every result is gone on to was there before
pub passed-up : {A B : Type 0} (a : Answer A) (f : A → B) (k v : ℕ) → on_result a (λ x. result (f x)) ≡ refused k v → a ≡ refused k v
passed-up (result x) f k v h = no-refusal h
passed-up {A} {B} (refused i j) f k v h = ap again h
  where
    again : Answer B → Answer A
    again (result x) = refused k v
    again (refused m n) = refused m n
