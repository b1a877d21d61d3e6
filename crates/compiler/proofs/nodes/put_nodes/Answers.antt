-- `compiler::nodes::put_nodes`: what is written before node i leads to the listing.
use Prim.Native.Nat.{◌<◌}
use native.Mathlib.Omega.{arith}
use lib.ListN.{length}
use Rattle.compiler.proofs.RoomLaws.{room-part}
use Rattle.compiler.proofs.CodedNodes.{lines-count, lines-here, code-kept}
use Rattle.compiler.proofs.NodeTurns.{node-inside, put-turn, put-end}
use Rattle.compiler.proofs.nodes.put_nodes.Goals as goal

-- there is a code for each count

pub bounds-codes-i : goal.bounds-codes-i
bounds-codes-i c = omega (arith, lines-count c.args.book.now c.args.condition.now c.codes-codes.ensures c.requires.counted, c.loop-i-test.true)

pub put_node-requires-clause-kept : goal.put_node-requires-clause-kept
put_node-requires-clause-kept c =
    let inside : c.loop-i.i < length c.codes-codes.result.now = omega (arith, lines-count c.args.book.now c.args.condition.now c.codes-codes.ensures c.requires.counted, c.loop-i-test.true) in
    (code-kept c.args.book.now c.args.condition.now c.codes-codes.ensures c.requires.range c.loop-i.i inside, c.requires.range.threshold)

pub put_node-requires-clause-counted : goal.put_node-requires-clause-counted
put_node-requires-clause-counted c = lines-here c.args.book.now c.args.condition.now c.codes-codes.ensures c.requires.counted c.loop-i.i c.loop-i-test.true

-- its records have room

pub put_node-requires-clause-room : goal.put_node-requires-clause-room
put_node-requires-clause-room c =
    let v = c.loop-i.invariant in
    room-part c.requires.room c.loop-i.at _ v.begins (node-inside c.args.book.now c.args.condition.now c.codes-codes.ensures c.requires.counted c.loop-i.i c.loop-i-test.true v) c.loop-i.auto.words

pub overflow_add-at : goal.overflow_add-at
overflow_add-at c =
    omega (arith, node-inside c.args.book.now c.args.condition.now c.codes-codes.ensures c.requires.counted c.loop-i.i c.loop-i-test.true c.loop-i.invariant, c.requires.room.numbers)

pub overflow_add-at-in-loop-i : goal.overflow_add-at-in-loop-i
overflow_add-at-in-loop-i c =
    omega (arith, node-inside c.args.book.now c.args.condition.now c.codes-codes.ensures c.requires.counted c.loop-i.i c.loop-i-test.true c.loop-i.invariant, c.requires.room.numbers)

pub loop-i-preserved : goal.loop-i-preserved
loop-i-preserved c =
    put-turn c.args.book.now c.args.condition.now c.codes-codes.ensures c.requires.counted c.loop-i.i c.loop-i-test.true c.loop-i.invariant c.put_node.ensures

pub returns : goal.returns
returns c = put-end c.args.book.now c.args.condition.now c.codes-codes.ensures c.requires.counted c.loop-i.i c.loop-i-test.false c.loop-i.invariant
