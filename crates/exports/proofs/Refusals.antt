-- Refusals with a number in a part of 1 to 11, and a value that is not large.
use Prim.Native.Nat.{ℕ, ◌≤◌}
use mathlib.Core.Bool.{Bool, true, false}
use mathlib.Core.Path.{◌≡◌, refl, sym, subst}
use native.Mathlib.Omega.{arith}
use Rattle.answers.specs.Answers.{Answer, result, refused, on_result, require}

-- a number from one to another, and a value up to a limit
abbrev pub InTable : (from to most number value : ℕ) → Type 0
InTable from to most number value = (from ≤ number) × (number ≤ to) × (value ≤ most)

-- the answer is a result, or such a refusal
pub data Refuses {A : Type 0} (from to most : ℕ) : Answer A → Type 0 where
  never : (a : A) → Refuses from to most (result a)
  by : (number value : ℕ) → InTable from to most number value → Refuses from to most (refused number value)

module _ {A : Type 0} {from to most : ℕ} where
  told : {number value : ℕ} → Refuses {A = A} from to most (refused number value) → InTable from to most number value
  told (by n v i) = i

  pub in_table : {number value : ℕ} {a : Answer A} → Refuses from to most a → refused number value ≡ a → InTable from to most number value
  in_table h e = told (subst (λ (x : Answer A). Refuses from to most x) (sym e) h)

  pub tried : {number value : ℕ} {a : Answer A} (t : Bool) → InTable from to most number value → (t ≡ true → Refuses from to most a) → Refuses from to most (require t number value a)
  tried true i h = h refl
  tried false i h = by _ _ i

  -- in a longer part
  pub widened : {further : ℕ} {a : Answer A} → to ≤ further → Refuses from to most a → Refuses from further most a
  widened l (never x) = never x
  widened l (by n v i) = by n v (omega arith)

  pub on-result : {B : Type 0} {a : Answer B} {f : B → Answer A} → Refuses from to most a → ((x : B) → Refuses from to most (f x)) → Refuses from to most (on_result a f)
  on-result (never x) g = g x
  on-result (by n v i) g = by n v i
