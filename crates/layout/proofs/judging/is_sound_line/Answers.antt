-- `layout::judging::is_sound_line`: where all tests hold, a step passes over the line.
use mathlib.Core.Path.{sym, ◌∙◌}
use native.Mathlib.Omega.{arith}
use Rattle.layout.proofs.Passing.{line_passed}
use Rattle.layout.proofs.judging.is_sound_line.Goals as goal
use Rattle.layout.proofs.judging.is_sound_line.Goals.{then-r-eq-LINE, else-r-eq-LINE}

pub returns-then-leads_to : goal.returns-then-leads_to
returns-then-leads_to c e =
    elim c.if-r-eq-LINE.branch [
      | then-r-eq-LINE w ↦
          line_passed _ _ _ _ _ c.record_at-r.ensures w.if_line.ensures (omega arith) (sym w.leads_to.ensures ∙ sym w.value-is ∙ c.if-leads_to.true) (sym c.lies_inside.ensures ∙ e)
      | else-r-eq-LINE w ↦ absurd (grind arith)
    ]
