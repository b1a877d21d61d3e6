-- `compiler::searching::with_next`: the point with the next rule.
use Prim.Native.Nat.{◌+◌, ◌^◌, ◌≤◌}
use mathlib.Core.List.{List}
use mathlib.Core.Path.{refl, sym, ap, ap₂, subst, ◌∙◌}
use native.Mathlib.Omega.{arith}
use borrow.Author.Rules.{rules}
use lib.IntN.{ℤ}
use lib.ListN.{get_or}
use lib.Signed.{mag}
use mir.Syntax.{w64}
use mir.ValLaws.{to_z-of_z}
use Rattle.peal.specs.Combining.{combined_of}
use Rattle.compiler.specs.Planning.{no_row}
use Rattle.compiler.specs.declared.planning.Row.{Row}
use Rattle.compiler.proofs.PointLaws.{next-small, mask-room, taken-in}
use Rattle.compiler.proofs.searching.with_next.Goals as goal

pub combined-requires : goal.combined-requires
combined-requires c =
    let at = c.args.left + 1 in
    let value = to_z-of_z w64 c.args.taken.value (search rules) in
    let score = to_z-of_z w64 (get_or c.deref.result.now at no_row).score (search rules) ∙ ap (λ (l : List Row). (get_or l at no_row).score) c.deref.ensures.0 in
    subst (λ (z : ℤ). mag z ≤ 10 ^ 16) (sym (ap₂ (combined_of c.args.plan.now.operator) value score)) (next-small _ c.requires.1)

pub overflow_add-result-2 : goal.overflow_add-result-2
overflow_add-result-2 c =
    let at = c.args.left + 1 in
    omega (arith, mask-room c.args.left c.requires.1, ap (λ (l : List Row). (get_or l at no_row).bit) c.deref.ensures.0)

pub returns : goal.returns
returns c p h =
    let at = c.args.left + 1 in
    let value = to_z-of_z w64 c.args.taken.value (search rules) in
    let score = to_z-of_z w64 (get_or c.deref.result.now at no_row).score (search rules) ∙ ap (λ (l : List Row). (get_or l at no_row).score) c.deref.ensures.0 in
    taken-in _ h refl
    (to_z-of_z w64 c.combined.result (search rules) ∙ c.combined.ensures ∙ ap₂ (combined_of c.args.plan.now.operator) value score)
    (ap (λ (l : List Row). c.args.taken.mask + (get_or l at no_row).bit) c.deref.ensures.0)
