-- `compiler::searching::count_lines`: the search through the rules in falling rank, from no rule on, finds the lines.
use mathlib.Core.List.{List}
use mathlib.Core.Path.{ap, subst, ◌∙◌}
use native.Mathlib.Nat.{zero-add}
use native.Mathlib.Omega.{arith}
use borrow.Author.Rules.{rules}
use lib.ListN.{length, length-map}
use mir.Syntax.{w32, w64}
use mir.ValLaws.{to_z-of_z}
use Rattle.peal.specs.Policies.{Rule, mask_of}
use Rattle.compiler.specs.Planning.{in_rank_order, PlanFor}
use Rattle.compiler.proofs.PointLaws.{as_local}
use Rattle.compiler.proofs.BeginningLaws.{begun, found-lines}
use Rattle.compiler.proofs.FoundLaws.{found-few}
use Rattle.compiler.proofs.searching.count_lines.Goals as goal

pub search-requires : goal.search-requires
search-requires c =
    let q = c.args.policy.now in
    let t = to_z-of_z w32 c.args.threshold c.ranges.threshold in
    let all = ap (λ (l : List Rule). length l) c.rules-rank.ensures.rules in
    let n = c.none_taken-none.ensures in
    let b = begun q c.args.threshold all (subst (PlanFor c.planned-plan.result (in_rank_order q)) t c.planned-plan.ensures) n.0 n.1 n.2 in
    let b3 = as_local (to_z-of_z w64 c.none_taken-none.result.value (search rules)) b in
    (_, b3, omega (arith, found-few b))

pub returns : goal.returns
returns c =
    let q = c.args.policy.now in
    let t = to_z-of_z w32 c.args.threshold c.ranges.threshold in
    let all = ap (λ (l : List Rule). length l) c.rules-rank.ensures.rules in
    let n = c.none_taken-none.ensures in
    let b = begun q c.args.threshold all (subst (PlanFor c.planned-plan.result (in_rank_order q)) t c.planned-plan.ensures) n.0 n.1 n.2 in
    let b3 = as_local (to_z-of_z w64 c.none_taken-none.result.value (search rules)) b in
    let finds = found-lines q c.args.threshold all c.rules-rank.ensures.range in
    c.search.ensures _ b3 ∙ zero-add _ ∙ length-map _ mask_of ∙ ap (λ (F : List (List Rule)). length F) finds
