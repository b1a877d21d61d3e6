-- `agreement::read_compiled`: the rod is handed the first words, four for each record.
use mathlib.Core.Path.{sym}
use native.Mathlib.Omega.{arith}
use lib.Seq.{length-take-le}
use Rattle.std.proofs.Common.{rules}
use Rattle.compiler.specs.Compiling.{compiled_listing}
use Rattle.agreement.proofs.read_compiled.Goals as goal

pub slice_bounds-decide-end : goal.slice_bounds-decide-end
slice_bounds-decide-end c = sym (length-take-le _ _ (omega arith))

pub returns : goal.returns
unfolding compiled_listing
returns c = search rules
