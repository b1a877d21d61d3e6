-- `compiler::nodes::put_join`: the one record of a join.
use Prim.Native.Nat.{ℕ, ◌+◌}
use mathlib.Core.Bool.{cond}
use mathlib.Core.Path.{ap, ◌∙◌}
use Rattle.layout.specs.Writing.{put_record, put_records}
use Rattle.compiler.specs.Nodes.{one_node}
use Rattle.compiler.proofs.nodes.put_join.Goals as goal

pub returns : goal.returns
unfolding put_records one_node
returns c =
    let a = c.args in
    λ m e.
    c.put_record.ensures
    ∙ ap (λ (x : ℕ). put_record a.words.now a.at (record { kind = c.join_kind.result; mask = 0; lines = 0; next = x })) c.number_if.ensures
    ∙ ap (λ (x : ℕ). put_record a.words.now a.at (record { kind = x; mask = 0; lines = 0; next = cond a.more (a.at + 1) 0 })) (c.join_kind.ensures m e)
