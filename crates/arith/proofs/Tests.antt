-- Laws of tests: Boolean answers, and tests over lists.
use Prim.Native.Nat.{ℕ, zero, suc, ◌≤◌}
use mathlib.Core.Bool.{Bool, true, false, not, ◌&&◌, ◌||◌, beq, true≢false}
use mathlib.Core.Logic.{◌⊎◌, inl, inr}
use mathlib.Core.Path.{◌≡◌, refl, sym, ap, ◌∙◌}
use native.Mathlib.Omega.{arith}
use mir.Val.{bool_byte}
use Rattle.arith.specs.Lists.{every, exists, below}

-- an answer is not both
pub clash : {X : Type 0} {b : Bool} → b ≡ true → b ≡ false → X
clash p q = absurd (true≢false (sym p ∙ q))

-- two answers are equal where each yes gives the other
pub same_answer : (a b : Bool) → (a ≡ true → b ≡ true) → (b ≡ true → a ≡ true) → a ≡ b
same_answer true b f g = sym (f refl)
same_answer false true f g = g refl
same_answer false false f g = refl

-- two answers that compare as equal are the same, and an answer compares as equal to itself
pub beq_same : (a b : Bool) → beq a b ≡ true → a ≡ b
beq_same true true e = refl
beq_same true false e = sym e
beq_same false true e = e
beq_same false false e = refl

pub beq-self : (b : Bool) → beq b b ≡ true
beq-self true = refl
beq-self false = refl

-- an answer that is not yes is no
pub not_yes : (a : Bool) → (a ≡ true → ⊥) → a ≡ false
not_yes true f = absurd (f refl)
not_yes false f = refl

pub and_left : (a b : Bool) → (a && b) ≡ true → a ≡ true
and_left true b h = refl
and_left false b h = h

pub and_right : (a b : Bool) → (a && b) ≡ true → b ≡ true
and_right true b h = h
and_right false b h = clash h refl

pub and-swap : (a b c : Bool) → (a && (b && c)) ≡ (b && (a && c))
and-swap true b c = refl
and-swap false true c = refl
and-swap false false c = refl

pub or_right : (a b : Bool) → b ≡ true → (a || b) ≡ true
or_right true b h = refl
or_right false b h = h

pub or-then : (a b c : Bool) → (a ≡ true → b ≡ true) → (a || c) ≡ true → (b || c) ≡ true
or-then true b c f h = rw (f refl)
or-then false b c f h = or_right b c h

pub or_cases : (a b : Bool) → (a || b) ≡ true → (a ≡ true) ⊎ (b ≡ true)
or_cases true b h = inl refl
or_cases false b h = inr h

pub or_swap : (a b c : Bool) → (a || (b || c)) ≡ (b || (a || c))
or_swap false b c = refl
or_swap true true c = refl
or_swap true false c = refl

pub not-and : (a b : Bool) → not (a && b) ≡ (not a || not b)
not-and true b = refl
not-and false b = refl

pub not-or : (a b : Bool) → not (a || b) ≡ (not a && not b)
not-or true b = refl
not-or false b = refl

-- one of two answers, where it follows from the other
pub or-first : (a b : Bool) → (b ≡ true → a ≡ true) → (a || b) ≡ a
or-first true b f = refl
or-first false true f = sym (f refl)
or-first false false f = refl

pub or-second : (a b : Bool) → (a ≡ true → b ≡ true) → (a || b) ≡ b
or-second true b f = sym (f refl)
or-second false b f = refl

-- the lowest number first
pub every-low : (n : ℕ) (test : ℕ → Bool) → every test (below (suc n)) ≡ (test zero && every (λ s. test (suc s)) (below n))
every-low zero test = refl
every-low (suc n) test =
    ap (λ (b : Bool). test (suc n) && b) (every-low n test) ∙ and-swap (test (suc n)) (test zero) (every (λ s. test (suc s)) (below n))

pub exists-low : (n : ℕ) (test : ℕ → Bool) → exists test (below (suc n)) ≡ (test zero || exists (λ s. test (suc s)) (below n))
exists-low zero test = refl
exists-low (suc n) test =
    ap (λ (b : Bool). test (suc n) || b) (exists-low n test) ∙ or_swap (test (suc n)) (test zero) (exists (λ s. test (suc s)) (below n))

-- an answer as a number is at most 1
pub byte_small : (b : Bool) → bool_byte b ≤ 1
byte_small true = omega arith
byte_small false = omega arith
