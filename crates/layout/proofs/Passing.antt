-- Lines passed over: a sound line leaves what stands above as it is, so after a policy the judgement may go on after its lines.
use Prim.Native.Nat.{ℕ, ◌+◌, ◌*◌, ◌/◌, ◌<◌}
use mathlib.Core.Bool.{Bool, true, ◌&&◌}
use mathlib.Core.List.{List}
use mathlib.Core.Option.{some}
use mathlib.Core.Path.{◌≡◌, sym, ap, ◌∙◌}
use native.Mathlib.Omega.{arith}
use lib.Dec.{eqb}
use lib.ListN.{length, get_or}
use Rattle.signals.specs.Sets.{is_set, inside}
use Rattle.layout.specs.Records.{Record, policy, line_kind, kind_of, kinds}
use Rattle.layout.specs.Judgement.{if_line, SoFar}
use Rattle.layout.specs.Computing.{steps_compute}
use Rattle.layout.specs.Steps.{record_at, records_from, step_at, PassedOver, AfterLines}
use Rattle.layout.proofs.KindLaws.{kind-line}
use Rattle.layout.proofs.Places.{next_past}
use Rattle.layout.proofs.JudgementLaws.{judged-on}

pub line_passed : (ws : List ℕ) (i mask : ℕ) (r : Record) (x : ℕ) → r ≡ record_at ws i → x ≡ if_line (kinds (records_from ws (i + 1))) (i + 1 + 1)
    → r.kind ≡ 4 → (eqb r.lines 0 && eqb r.next x) ≡ true → (is_set r.mask && inside r.mask mask) ≡ true → PassedOver ws i mask
unfolding line_kind steps_compute
line_passed ws i mask r x er ex k l m =
    let kind : get_or ws (i * 4) 0 ≡ 4 = sym (ap (λ (y : Record). y.kind) er) ∙ k in
    let masks = ap (λ (y : Record). y.mask) er in
    let lines = ap (λ (y : Record). y.lines) er in
    let next = ap (λ (y : Record). y.next) er in
    (kind, λ so e. rw (kind, kind-line, e, ← masks, ← lines, ← next, ← ex, m) (grind (arith, l)))

-- after a step over a policy its mask stands above
step-mask : (ws : List ℕ) (i : ℕ) (so next : SoFar) (q t : Bool) → kind_of (get_or ws (i * 4) 0) ≡ policy q t → some next ≡ step_at ws i so
    → next.policy_mask ≡ some (get_or ws (i * 4 + 1) 0)
unfolding steps_compute
step-mask ws i so next q t k e = grind (arith, rw k at e)

-- one line more of the policy at index `node`
pub after_line : (ws : List ℕ) (node i mask : ℕ) (r : Record) (q t : Bool) → r ≡ record_at ws node → policy q t ≡ kind_of r.kind → r.mask ≡ mask
    → i < length ws / 4 → PassedOver ws i mask → AfterLines ws node i → AfterLines ws node (i + 1)
unfolding line_kind
after_line ws node i mask r q t er k m h p a =
    let kind : kind_of (get_or ws (node * 4) 0) ≡ policy q t = ap (λ (y : Record). kind_of y.kind) (sym er) ∙ sym k in
    let same : get_or ws (node * 4 + 1) 0 ≡ mask = sym (ap (λ (y : Record). y.mask) er) ∙ m in
    record {
      later = omega (arith, a.later);
      same_node = sym (next_past ws i (i + 1) h p.0) ∙ a.same_node;
      same_judged = λ so next e. a.same_judged so next e ∙ judged-on ws i next h next (p.1 next (step-mask ws node so next q t kind e ∙ ap some same));
    }
