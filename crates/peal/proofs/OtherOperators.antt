-- What holds of the other operators holds where the code finds that the operator is not mul.
use mathlib.Core.List.{[], ◌∷◌}
use mathlib.Core.Logic.{inl, inr}
use native.Mathlib.Omega.{arith}
use denote.Enum.Declared.{tag_of}
use types.Run.{OneOf}
use Rattle.peal.specs.declared.Operator.{Operator}
use Rattle.peal.specs.declared.Operator.TheVariants.{Min, Max, Sum, Mul}
use Rattle.peal.specs.contracts.Operator.{the_type}

pub other-operator : (P : Operator → Type 0) (o : Operator) → OneOf (0 ∷ 1 ∷ 2 ∷ []) (tag_of the_type o) → P Min → P Max → P Sum → P o
other-operator P Min h a b c = a
other-operator P Max h a b c = b
other-operator P Sum h a b c = c
other-operator P Mul (inl h) a b c = absurd (omega arith)
other-operator P Mul (inr (inl h)) a b c = absurd (omega arith)
other-operator P Mul (inr (inr h)) a b c = absurd (omega arith)
