-- `compiler::nodes::node_lines`: none for a join; the policy's for a mention.
use mathlib.Core.Path.{sym, ap₂, ◌∙◌}
use borrow.Author.Rules.{rules}
use lib.IntN.{ℤ}
use lib.ListN.{length}
use mir.Syntax.{w32}
use mir.ValLaws.{to_z-of_z}
use Rattle.peal.specs.Policies.{Policy}
use Rattle.compiler.specs.Searching.{lines_of}
use Rattle.compiler.proofs.CodedNodes.{mention-lines, mention-there, mentioned, no-mention}
use Rattle.compiler.proofs.nodes.node_lines.Goals as goal

pub returns-in-Policy : goal.returns-in-Policy
returns-in-Policy c =
    let b = c.args.book.now in
    let d = c.args.condition.now in
    let p = mentioned b c.in-Policy.k c.policies.ensures.policies (mention-there b c.in-Policy.is c.requires.0) c.index-policies-k.is in
    c.count_lines.ensures
    ∙ ap₂ (λ (t : ℤ) (q : Policy). length (lines_of t q)) (to_z-of_z w32 c.threshold.result (search rules) ∙ c.threshold.ensures) p
    ∙ sym (mention-lines b d c.in-Policy.is)

pub returns-in_default : goal.returns-in_default
returns-in_default c = sym (no-mention c.args.book.now c.args.condition.now c.args.code c.in_default.not-Policy)
