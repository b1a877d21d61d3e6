-- `compiler::nodes::is_turned`: a sense at a time.
use mathlib.Core.Bool.{not}
use mathlib.Core.Path.{sym, ap, ◌∙◌}
use Rattle.translation.specs.Translation.{turned}
use Rattle.peal.specs.declared.Sense.{Sense}
use Rattle.compiler.proofs.nodes.is_turned.Goals as goal

pub returns-in-AtMost : goal.returns-in-AtMost
unfolding turned
returns-in-AtMost c = c.rises-rising.ensures ∙ ap (λ (s : Sense). turned s c.args.operator) (sym c.in-AtMost.is)

pub returns-in-Above : goal.returns-in-Above
unfolding turned
returns-in-Above c = ap not c.rises-rising.ensures ∙ ap (λ (s : Sense). turned s c.args.operator) (sym c.in-Above.is)
