-- `compiler::compile_condition`: no room, or the listing's records.
use Prim.Native.Nat.{ℕ, ◌+◌}
use mathlib.Core.List.{List}
use mathlib.Core.Path.{ap, ◌∙◌}
use native.Mathlib.Omega.{arith}
use lib.ListN.{length}
use Rattle.layout.specs.Nodes.{node_records}
use Rattle.layout.specs.Writing.{put_records}
use Rattle.peal.specs.Policies.{Exclusion}
use Rattle.compiler.specs.Nodes.{nodes_of}
use Rattle.compiler.proofs.NodeTurns.{listing-count, put-listing}
use Rattle.compiler.proofs.ConditionLaws.{few-lines, records-found, refused-found, kept-found, returned-found, written-found}
use Rattle.compiler.proofs.compile_condition.Goals as goal

pub count_records-records-requires : goal.count_records-records-requires
count_records-records-requires c =
    let few = few-lines c.args.book.now c.args.n c.requires c.conditions.ensures.conditions c.index-conditions-n.is (c.deref.ensures.0 ∙ c.line_counts-lines.ensures) c.conditions.ensures.range in
    (omega (arith, ap (λ (l : List Exclusion). length l) c.exclusions-exclusions.ensures.exclusions, c.conditions.ensures.range.exclusions_room), few.0, few.1)

pub returns-then-words-needed-clause-condition_returns : goal.returns-then-words-needed-clause-condition_returns
returns-then-words-needed-clause-condition_returns c =
    refused-found c.args.book.now c.args.n c.requires c.conditions.ensures.conditions c.index-conditions-n.is (c.deref.ensures.0 ∙ c.line_counts-lines.ensures) c.exclusions-exclusions.ensures.exclusions c.count_records-records.ensures.records c.args.words.now (omega arith)

pub returns-then-words-needed-clause-condition_leaves : goal.returns-then-words-needed-clause-condition_leaves
returns-then-words-needed-clause-condition_leaves c =
    kept-found c.args.book.now c.args.n c.requires c.conditions.ensures.conditions c.index-conditions-n.is (c.deref.ensures.0 ∙ c.line_counts-lines.ensures) c.exclusions-exclusions.ensures.exclusions c.count_records-records.ensures.records c.args.words.now (omega arith)

-- the listing has room, and begins with the exclusions

pub put_nodes-requires-clause-room : goal.put_nodes-requires-clause-room
put_nodes-requires-clause-room c =
    let pairs = ap (λ (l : List Exclusion). length l) c.exclusions-exclusions.ensures.exclusions in
    let all = listing-count c.args.book.now c.index-conditions-n.result (length c.exclusions-exclusions.result.now) pairs in
    let records = records-found c.args.book.now c.args.n c.requires c.conditions.ensures.conditions c.index-conditions-n.is (c.deref.ensures.0 ∙ c.line_counts-lines.ensures) c.exclusions-exclusions.ensures.exclusions c.count_records-records.ensures.records in
    record {
      begins = omega arith;
      numbers = omega (arith, all, records, c.count_records-records.ensures.small);
      room = omega (arith, all, records, c.put_exclusions.auto.words);
    }

pub returns-clause-condition_returns : goal.returns-clause-condition_returns
returns-clause-condition_returns c =
    returned-found c.args.book.now c.args.n c.requires c.conditions.ensures.conditions c.index-conditions-n.is (c.deref.ensures.0 ∙ c.line_counts-lines.ensures) c.exclusions-exclusions.ensures.exclusions c.count_records-records.ensures.records c.args.words.now (omega arith)

pub returns-clause-condition_leaves : goal.returns-clause-condition_leaves
returns-clause-condition_leaves c =
    let pairs = ap (λ (l : List Exclusion). length l) c.exclusions-exclusions.ensures.exclusions in
    let d = c.index-conditions-n.result in
    let first = length c.exclusions-exclusions.result.now + 1 in
    c.put_nodes.ensures
    ∙ ap (λ (ws : List ℕ). put_records ws first (node_records first (nodes_of c.args.book.now d))) c.put_exclusions.ensures
    ∙ put-listing c.args.book.now d _ pairs c.args.words.now
    ∙ written-found c.args.book.now c.args.n c.requires c.conditions.ensures.conditions c.index-conditions-n.is (c.deref.ensures.0 ∙ c.line_counts-lines.ensures) c.exclusions-exclusions.ensures.exclusions c.count_records-records.ensures.records c.args.words.now (omega arith)
