-- `checks::sound_comparison`: each answer by the lowest set where the two differ.
use mathlib.Core.Path.{sym, ◌∙◌}
use Rattle.checks.proofs.Answers.{alike_all, differ-first, differ-second}
use Rattle.checks.proofs.sound_comparison.Goals as goal

pub reading-requires : goal.reading-requires
reading-requires c = c.args.one.sound.0

pub returns-then-reading : goal.returns-then-reading
returns-then-reading c = differ-first _ _ c.args.one.sound.0 c.args.two.sound.0 _ (sym c.in-Some.ensures) (sym c.if-reading.true ∙ c.reading.ensures)

pub returns-else-reading : goal.returns-else-reading
returns-else-reading c = differ-second _ _ c.args.one.sound.0 c.args.two.sound.0 _ (sym c.in-Some.ensures) (sym c.if-reading.false ∙ c.reading.ensures)

pub returns-in-None : goal.returns-in-None
returns-in-None c = alike_all _ _ c.args.one.sound.0 c.args.two.sound.0 (sym c.in-None.ensures)
