-- `compiler::searching::put_lines`: the search through the rules in falling rank, from no rule on, finds the lines.
use Prim.Native.Nat.{◌+◌, ◌-◌}
use mathlib.Core.List.{List, map}
use mathlib.Core.Path.{◌≡◌, ap, subst, ◌∙◌}
use native.Mathlib.Omega.{arith}
use borrow.Author.Rules.{rules}
use lib.ListN.{length, length-map}
use mir.Syntax.{w32, w64}
use mir.ValLaws.{to_z-of_z}
use Rattle.layout.specs.Nodes.{line_records}
use Rattle.layout.specs.Writing.{put_records, lines_up_to}
use Rattle.layout.proofs.WritingLaws.{lines-up-to}
use Rattle.peal.specs.Policies.{Rule, mask_of}
use Rattle.compiler.specs.Planning.{in_rank_order, PlanFor}
use Rattle.compiler.specs.Putting.{put_masks}
use Rattle.compiler.specs.Searching.{found, lines_of}
use Rattle.compiler.proofs.PointLaws.{as_local}
use Rattle.compiler.proofs.BeginningLaws.{beginning, begun, found-lines}
use Rattle.compiler.proofs.searching.put_lines.Goals as goal

pub search-requires : goal.search-requires
search-requires c =
    let q = c.args.policy.now in
    let t = to_z-of_z w32 c.args.threshold c.ranges.threshold in
    let all = ap (λ (l : List Rule). length l) c.rules-rank.ensures.rules in
    let n = c.none_taken-none.ensures in
    let b = begun q c.args.threshold all (subst (PlanFor c.planned-plan.result (in_rank_order q)) t c.planned-plan.ensures) n.0 n.1 n.2 in
    let b3 = as_local (to_z-of_z w64 c.none_taken-none.result.value (search rules)) b in
    let finds = ap (λ (F : List (List Rule)). length F) (found-lines q c.args.threshold all c.rules-rank.ensures.range) in
    let r = c.requires.room in
    (_, b3, record { begins = r.begins; numbers = omega (arith, r.numbers, finds, c.requires.counted); room = omega (arith, r.room, finds, c.requires.counted) })

-- so many lines as are found, the last of which is that of the policy
pub returns : goal.returns
returns c =
    let q = c.args.policy.now in
    let t = to_z-of_z w32 c.args.threshold c.ranges.threshold in
    let all = ap (λ (l : List Rule). length l) c.rules-rank.ensures.rules in
    let n = c.none_taken-none.ensures in
    let b = begun q c.args.threshold all (subst (PlanFor c.planned-plan.result (in_rank_order q)) t c.planned-plan.ensures) n.0 n.1 n.2 in
    let b3 = as_local (to_z-of_z w64 c.none_taken-none.result.value (search rules)) b in
    let finds = found-lines q c.args.threshold all c.rules-rank.ensures.range in
    let masks = map mask_of (lines_of c.args.threshold q) in
    let last : c.args.at + length masks ≡ c.args.at + c.args.count - 1 + 1 = omega (arith, c.requires.room.begins, c.requires.counted, length-map (lines_of c.args.threshold q) mask_of) in
    let put = c.search.ensures _ b3 in
    let same : put_masks (c.args.at + c.args.count - 1) c.args.at (map mask_of (found (beginning q c.args.threshold) (length c.rules-rank.result.now))) c.args.words.now
    ≡ put_records c.args.words.now c.args.at (line_records c.args.at masks) =
    ap (λ (F : List (List Rule)). put_records c.args.words.now c.args.at (lines_up_to (c.args.at + c.args.count - 1) c.args.at (map mask_of F))) finds
    ∙ ap (put_records c.args.words.now c.args.at) (lines-up-to (c.args.at + c.args.count - 1) c.args.at masks last) in
    rw (← same) (search rules)
