-- `compiler::nodes::put_node`: a join's record, or a mention's.
use Prim.Native.Nat.{ℕ}
use mathlib.Core.Path.{sym, ap, ◌∙◌}
use lib.ListN.{length}
use Rattle.arith.specs.Trees.{value, joining}
use Rattle.layout.specs.Nodes.{ListedNode}
use Rattle.layout.specs.Writing.{put_records}
use Rattle.peal.specs.Policies.{Policy}
use Rattle.peal.specs.declared.Sense.{Sense}
use Rattle.translation.specs.Translation.{join_of, listed}
use Rattle.text.specs.declared.expressions.Code.{Code}
use Rattle.compiler.specs.Nodes.{coded_node, one_node}
use Rattle.compiler.specs.Searching.{lines_of}
use Rattle.compiler.proofs.CodedNodes.{join-coded, mention-lines, mention-there, mentioned}
use Rattle.compiler.proofs.nodes.put_node.Goals as goal

pub put_policy-requires-clause-counted : goal.put_policy-requires-clause-counted
put_policy-requires-clause-counted c =
    let b = c.args.book.now in
    let d = c.args.condition.now in
    let p = mentioned b c.in-Policy.k c.policies.ensures.policies (mention-there b c.in-Policy.is c.requires.kept.0) c.index-policies-k.is in
    c.requires.counted ∙ mention-lines b d c.in-Policy.is ∙ sym (ap (λ (q : Policy). length (lines_of d.threshold q)) p)

pub returns-in-Policy : goal.returns-in-Policy
returns-in-Policy c =
    let a = c.args in
    let b = a.book.now in
    let d = a.condition.now in
    let p = mentioned b c.in-Policy.k c.policies.ensures.policies (mention-there b c.in-Policy.is c.requires.kept.0) c.index-policies-k.is in
    c.put_policy.ensures
    ∙ ap (λ (q : Policy). put_records a.words.now a.at (one_node a.at a.more (value (listed d.sense d.threshold q)))) p
    ∙ ap (λ (y : Code ℕ). put_records a.words.now a.at (one_node a.at a.more (coded_node b d y))) (sym c.in-Policy.is)

pub returns-in_default : goal.returns-in_default
returns-in_default c =
    let a = c.args in
    let j = join-coded a.book.now a.condition.now a.code c.in_default.not-Policy in
    c.put_join.ensures j.0 j.1
    ∙ ap (λ (s : Sense). put_records a.words.now a.at (one_node a.at a.more (joining (join_of s j.0)))) c.sense.ensures
    ∙ ap (λ (n : ListedNode). put_records a.words.now a.at (one_node a.at a.more n)) (sym j.2)
