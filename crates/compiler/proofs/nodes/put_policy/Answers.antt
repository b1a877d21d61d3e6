-- `compiler::nodes::put_policy`: the policy's record, and its lines after it.
use Prim.Native.Nat.{ℕ, ◌+◌}
use mathlib.Core.List.{List, map}
use mathlib.Core.Path.{ap₂, ◌∙◌}
use borrow.Author.Rules.{rules}
use lib.IntN.{ℤ}
use mir.Syntax.{w32}
use mir.ValLaws.{to_z-of_z}
use Rattle.layout.specs.Records.{policy_kind}
use Rattle.layout.specs.Nodes.{line_records}
use Rattle.layout.specs.Writing.{put_records}
use Rattle.peal.specs.Policies.{mask_of}
use Rattle.translation.specs.Translation.{turned}
use Rattle.compiler.specs.Searching.{lines_of}
use Rattle.compiler.proofs.NodeLaws.{put-mention}
use Rattle.compiler.proofs.nodes.put_policy.Goals as goal

pub returns : goal.returns
returns c =
    let a = c.args in
    let d = a.condition.now in
    let t = to_z-of_z w32 c.threshold.result (search rules) ∙ c.threshold.ensures in
    let kind = c.policy_kind.ensures ∙ ap₂ policy_kind c.is_quiet.ensures (c.is_turned-turned.ensures ∙ ap₂ turned c.sense.ensures c.operator.ensures) in
    c.put_lines.ensures
    ∙ ap₂ (λ (w : List ℕ) (x : ℤ). put_records w (a.at + 1) (line_records (a.at + 1) (map mask_of (lines_of x a.policy.now)))) c.put_record.ensures t
    ∙ put-mention d.sense d.threshold a.policy.now c.requires.counted a.at a.more a.words.now _
    (λ i. record { kind = kind i; mask = c.mask.ensures i; lines = c.number_if.ensures i; next = c.number_if-2.ensures i })
