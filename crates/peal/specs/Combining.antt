-- An operator over two scores, as the code combines them one by one.
use Rattle.std.specs.Prelude.{ℤ, ◌+ℤ◌, ◌*ℤ◌}
use Rattle.peal.specs.Policies.{smaller, larger}
use Rattle.peal.specs.Score.{of_two}
use Rattle.peal.specs.declared.Operator.{Operator}
use Rattle.peal.specs.declared.Operator.TheVariants.{Min, Max, Sum, Mul}

-- the operator over two scores; in mul the bare product
unfoldable pub combined_of : Operator → ℤ → ℤ → ℤ
combined_of Min v w = of_two smaller v w
combined_of Max v w = of_two larger v w
combined_of Sum v w = v +ℤ w
combined_of Mul v w = v *ℤ w
