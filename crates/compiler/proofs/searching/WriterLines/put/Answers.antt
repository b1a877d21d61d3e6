-- `compiler::searching::WriterLines::put`: one line.
use mathlib.Core.Path.{refl}
use Rattle.layout.specs.Writing.{put_records, lines_up_to}
use Rattle.compiler.proofs.searching.WriterLines.put.Goals as goal

pub returns : goal.returns
unfolding put_records lines_up_to
returns c = (refl, refl, refl, c.put_line.ensures)
