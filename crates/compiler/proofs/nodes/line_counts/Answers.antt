-- `compiler::nodes::line_counts`: so far the lines of the nodes before node i are counted.
use Prim.Native.Nat.{ℕ}
use mathlib.Core.List.{List, map}
use mathlib.Core.Path.{ap, ◌∙◌}
use native.Mathlib.Omega.{arith}
use lib.ListN.{length, length-map, take}
use lib.Seq.{length-take-le}
use Rattle.std.proofs.lemmas.List.{take_all}
use Rattle.compiler.proofs.CodedNodes.{lines_at, lines-coded, code-kept, codes-few}
use Rattle.compiler.proofs.nodes.line_counts.Goals as goal

pub node_lines-next-requires : goal.node_lines-next-requires
node_lines-next-requires c = (code-kept c.args.book.now c.args.condition.now c.codes-codes.ensures c.requires c.loop-i.i c.loop-i-test.true, c.requires.threshold)

pub push-requires : goal.push-requires
push-requires c =
    let b = c.args.book.now in
    let d = c.args.condition.now in (
      omega arith,
      omega (
        arith,
        ap (λ (l : List ℕ). length l) c.loop-i.invariant ∙ length-map (take c.loop-i.i c.codes-codes.result.now) (lines_at b d),
        length-take-le c.loop-i.i c.codes-codes.result.now (omega (arith, c.loop-i-test.true)),
        c.loop-i-test.true,
        codes-few b d c.codes-codes.ensures c.requires,
      ),
    )

pub returns : goal.returns
returns c =
    let b = c.args.book.now in
    let d = c.args.condition.now in
    c.loop-i.invariant ∙ ap (map (lines_at b d)) (take_all c.loop-i.i c.codes-codes.result.now c.loop-i-test.false) ∙ lines-coded b d c.codes-codes.ensures
