-- `groups::after_node`: each kind of node by the law for it; a line or an unknown kind does not stand there.
use mathlib.Core.Logic.{⊎_elim}
use mathlib.Core.Path.{sym, ap, ◌∙◌}
use Rattle.layout.specs.Records.{and, or}
use Rattle.layout.specs.Steps.{kind_meaning}
use Rattle.rod.proofs.Steps.{not_line, not-unknown}
use Rattle.groups.proofs.GroupSteps.{policy-here, policy-room, past-group-policy, two-values, past-group-join, past-group-exclusion}
use Rattle.groups.proofs.after_node.Goals as goal

pub bounds-values-height : goal.bounds-values-height
bounds-values-height c =
    policy-room _ _ _ _ _ _ c.requires.node_to c.requires.group_underway _ _ (sym (ap kind_meaning c.in-Policy.is) ∙ c.from-kind.ensures)

pub put_policy-requires-clause-policy_here : goal.put_policy-requires-clause-policy_here
put_policy-requires-clause-policy_here c =
    policy-here _ _ _ _ _ _ c.requires.node_to c.requires.group_underway _ _ (sym (ap kind_meaning c.in-Policy.is) ∙ c.from-kind.ensures)

pub join_last-requires : goal.join_last-requires
join_last-requires c = two-values _ _ _ _ _ _ c.requires.node_to c.requires.group_underway and (sym (ap kind_meaning c.in-And.is) ∙ c.from-kind.ensures)

pub join_last-requires-in-Or : goal.join_last-requires-in-Or
join_last-requires-in-Or c = two-values _ _ _ _ _ _ c.requires.node_to c.requires.group_underway or (sym (ap kind_meaning c.in-Or.is) ∙ c.from-kind.ensures)

pub returns-in-Policy : goal.returns-in-Policy
returns-in-Policy c =
    past-group-policy _ _ _ _ _ _ c.requires.node_to c.requires.group_underway _ _ (sym (ap kind_meaning c.in-Policy.is) ∙ c.from-kind.ensures)
    _ c.put_policy.ensures

pub returns-in-And : goal.returns-in-And
returns-in-And c =
    let j = c.join_last.ensures in
    rw j.one_less (past-group-join _ _ _ _ _ _ c.requires.node_to c.requires.group_underway and (sym (ap kind_meaning c.in-And.is) ∙ c.from-kind.ensures) _ j.joined)

pub returns-in-Or : goal.returns-in-Or
returns-in-Or c =
    let j = c.join_last-in-Or.ensures in
    rw j.one_less (past-group-join _ _ _ _ _ _ c.requires.node_to c.requires.group_underway or (sym (ap kind_meaning c.in-Or.is) ∙ c.from-kind.ensures) _ j.joined)

pub returns-in-Line : goal.returns-in-Line
returns-in-Line c =
    let n = c.requires.node_to in
    let u = c.requires.group_underway in
    ⊎_elim (λ e. absurd (not_line _ _ n.within u.node (sym (ap kind_meaning e) ∙ c.from-kind.ensures)))
    (⊎_elim (λ e. absurd (not-unknown _ _ n.within u.node (sym (ap kind_meaning e) ∙ c.from-kind.ensures)))
    (λ e. past-group-exclusion _ _ _ _ _ _ n u (sym (ap kind_meaning e) ∙ c.from-kind.ensures))) c.in-Line.is
