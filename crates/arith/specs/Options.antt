-- Values that may be missing.
use Rattle.std.specs.Prelude
use Rattle.std.specs.Prelude.{Bool, true, false}
use Rattle.std.proofs.Math.Option.{Option, none, some}

-- go on with what was found; nothing stays nothing (`do` blocks are read by this)
infixl 20 ◌>>=◌
abbrev pub ◌>>=◌ : {A B : Type 0} → Option A → (A → Option B) → Option B
none >>= f = none
some a >>= f = f a

-- what was found, if the test holds
infixr 15 if◌then◌
abbrev pub if◌then◌ : {A : Type 0} → Bool → Option A → Option A
if true then a = a
if false then a = none

-- what code found, as the definitions have it: `Some` is the code's own, `some` the definitions'
abbrev pub told : {A : Type 0} → Prelude.Option A → Option A
told (Prelude.Some a) = some a
told Prelude.None = none
