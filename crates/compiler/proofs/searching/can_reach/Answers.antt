-- `compiler::searching::can_reach`: the limit for all the rules tells.
use Prim.Native.Nat.{◌+◌, ◌^◌, ◌≤◌}
use mathlib.Core.List.{List}
use mathlib.Core.Path.{sym, ap, ap₂, subst, ◌∙◌}
use borrow.Author.Rules.{rules}
use lib.IntN.{ℤ}
use lib.ListN.{get_or}
use lib.Signed.{mag}
use mir.Syntax.{w64}
use mir.ValLaws.{to_z-of_z}
use Rattle.peal.specs.Combining.{combined_of}
use Rattle.compiler.specs.Worth.{reached_of}
use Rattle.compiler.specs.Planning.{no_row}
use Rattle.compiler.specs.declared.planning.Row.{Row}
use Rattle.compiler.proofs.PointLaws.{all-small, all-tell}
use Rattle.compiler.proofs.searching.can_reach.Goals as goal

pub combined-requires : goal.combined-requires
combined-requires c =
    let left = c.args.left in
    let value = to_z-of_z w64 c.args.taken.value (search rules) in
    let rest = to_z-of_z w64 (get_or c.deref-2.result.now left no_row).rest (search rules) ∙ ap (λ (l : List Row). (get_or l left no_row).rest) c.deref-2.ensures.0 in
    subst (λ (z : ℤ). mag z ≤ 10 ^ 16) (sym (ap₂ (combined_of c.args.plan.now.operator) value rest)) (all-small c.requires.1)

pub is_reached-requires : goal.is_reached-requires
is_reached-requires c =
    let left = c.args.left in
    let value = to_z-of_z w64 c.args.taken.value (search rules) in
    let rest = to_z-of_z w64 (get_or c.deref-2.result.now left no_row).rest (search rules) ∙ ap (λ (l : List Row). (get_or l left no_row).rest) c.deref-2.ensures.0 in
    subst (λ (z : ℤ). mag z ≤ 10 ^ 16)
    (sym (to_z-of_z w64 c.combined.result (search rules) ∙ c.combined.ensures ∙ ap₂ (combined_of c.args.plan.now.operator) value rest)) (all-small c.requires.1)

pub returns : goal.returns
returns c p h =
    let left = c.args.left in
    let all = c.args.taken.count + left in
    let value = to_z-of_z w64 c.args.taken.value (search rules) in
    let rest = to_z-of_z w64 (get_or c.deref-2.result.now left no_row).rest (search rules) ∙ ap (λ (l : List Row). (get_or l left no_row).rest) c.deref-2.ensures.0 in
    c.is_reached.ensures
    ∙ ap₂ (reached_of c.args.plan.now.operator)
    (to_z-of_z w64 (get_or c.deref.result.now all no_row).limit (search rules) ∙ ap (λ (l : List Row). (get_or l all no_row).limit) c.deref.ensures.0)
    (to_z-of_z w64 c.combined.result (search rules) ∙ c.combined.ensures ∙ ap₂ (combined_of c.args.plan.now.operator) value rest)
    ∙ all-tell h
