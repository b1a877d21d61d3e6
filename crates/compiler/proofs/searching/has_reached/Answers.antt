-- `compiler::searching::has_reached`: the limit for so many rules tells.
use Prim.Native.Nat.{◌^◌, ◌≤◌}
use mathlib.Core.List.{List}
use mathlib.Core.Path.{sym, ap, ap₂, subst, ◌∙◌}
use borrow.Author.Rules.{rules}
use lib.IntN.{ℤ}
use lib.ListN.{get_or}
use lib.Signed.{mag}
use mir.Syntax.{w64}
use mir.ValLaws.{to_z-of_z}
use Rattle.compiler.specs.Worth.{reached_of}
use Rattle.compiler.specs.Planning.{no_row}
use Rattle.compiler.specs.declared.planning.Row.{Row}
use Rattle.compiler.proofs.PointLaws.{taken-small, taken-tells}
use Rattle.compiler.proofs.searching.has_reached.Goals as goal

pub is_reached-requires : goal.is_reached-requires
is_reached-requires c = subst (λ (z : ℤ). mag z ≤ 10 ^ 16) (sym (to_z-of_z w64 c.args.taken.value (search rules))) (taken-small c.requires.1)

pub returns : goal.returns
returns c p h =
    c.is_reached.ensures
    ∙ ap₂ (reached_of c.args.plan.now.operator)
    (to_z-of_z w64 (get_or c.deref.result.now c.args.taken.count no_row).limit (search rules) ∙ ap (λ (l : List Row). (get_or l c.args.taken.count no_row).limit) c.deref.ensures.0)
    (to_z-of_z w64 c.args.taken.value (search rules))
    ∙ taken-tells h
