-- `rod::after_node`: each kind of node by the law for it; a line or an unknown kind does not stand there.
use mathlib.Core.Path.{sym, ap, ◌∙◌}
use Rattle.layout.specs.Records.{and, or}
use Rattle.layout.specs.Steps.{kind_meaning}
use Rattle.rod.proofs.Steps.{not_line, not-unknown, policy-lines, values-small, past-policy, past-join, past-exclusion}
use Rattle.rod.proofs.after_node.Goals as goal

pub policy_value-requires-clause-lines_to : goal.policy_value-requires-clause-lines_to
policy_value-requires-clause-lines_to c =
    let n = c.requires.node_to in
    policy-lines _ _ n.within c.requires.reading_underway.node _ _ (sym (ap kind_meaning c.in-Policy.is) ∙ c.from-kind.ensures) _ n.ends

pub with_value-requires : goal.with_value-requires
with_value-requires c = values-small _ _ _ _ _ c.requires.node_to c.requires.reading_underway

pub returns-in-Policy : goal.returns-in-Policy
returns-in-Policy c =
    past-policy _ _ _ _ _ c.requires.node_to c.requires.reading_underway _ _ (sym (ap kind_meaning c.in-Policy.is) ∙ c.from-kind.ensures)
    _ _ c.policy_value.ensures c.with_value.ensures

pub returns-in-And : goal.returns-in-And
returns-in-And c =
    past-join _ _ _ _ _ c.requires.node_to c.requires.reading_underway and (sym (ap kind_meaning c.in-And.is) ∙ c.from-kind.ensures)
    _ c.with_join.ensures

pub returns-in-Or : goal.returns-in-Or
returns-in-Or c =
    past-join _ _ _ _ _ c.requires.node_to c.requires.reading_underway or (sym (ap kind_meaning c.in-Or.is) ∙ c.from-kind.ensures)
    _ c.with_join-in-Or.ensures

pub returns-in-Line : goal.returns-in-Line
returns-in-Line c = absurd (not_line _ _ c.requires.node_to.within c.requires.reading_underway.node (sym (ap kind_meaning c.in-Line.is) ∙ c.from-kind.ensures))

pub returns-in-Unknown : goal.returns-in-Unknown
returns-in-Unknown c = absurd (not-unknown _ _ c.requires.node_to.within c.requires.reading_underway.node (sym (ap kind_meaning c.in-Unknown.is) ∙ c.from-kind.ensures))

pub returns-in-Exclusion : goal.returns-in-Exclusion
returns-in-Exclusion c = past-exclusion _ _ _ _ _ c.requires.node_to c.requires.reading_underway (sym (ap kind_meaning c.in-Exclusion.is) ∙ c.from-kind.ensures)
