-- What is found has a property: the property of what a `do` block finds, from those of its steps.
use mathlib.Core.Bool.{Bool, true, false, cond}
use mathlib.Core.Option.{Option, none, some}
use mathlib.Core.Path.{◌≡◌, refl}
use Rattle.arith.specs.Options.{◌>>=◌, if◌then◌}

-- what was found, if anything, has the property
abbrev pub Finds : {A : Type 0} → (A → Type 0) → Option A → Type 0
Finds P none = Unit {0}
Finds P (some a) = P a

module _ {B : Type 0} (Q : B → Type 0) where
  pub finds-that : (o : Option B) → ((b : B) → o ≡ some b → Q b) → Finds Q o
  finds-that none h = tt
  finds-that (some b) h = h b refl

  pub finds-then : {A : Type 0} (P : A → Type 0) (o : Option A) (f : A → Option B) → Finds P o → ((a : A) → P a → Finds Q (f a)) → Finds Q (o >>= f)
  finds-then P none f h k = tt
  finds-then P (some a) f h k = k a h

  pub finds-any : {A : Type 0} (o : Option A) (f : A → Option B) → ((a : A) → Finds Q (f a)) → Finds Q (o >>= f)
  finds-any none f k = tt
  finds-any (some a) f k = k a

  pub finds-if : (t : Bool) (o : Option B) → (t ≡ true → Finds Q o) → Finds Q (if t then o)
  finds-if true o h = h refl
  finds-if false o h = tt

  pub finds-either : (t : Bool) (o p : Option B) → Finds Q o → Finds Q p → Finds Q (cond t o p)
  finds-either true o p h k = h
  finds-either false o p h k = k
