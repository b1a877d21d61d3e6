-- `compiler::compile`: the condition's listing, or why there is no such condition.
use mathlib.Core.Path.{ap, ◌∙◌}
use Rattle.std.proofs.lemmas.Result.{err_from_is_err_and}
use Rattle.answers.proofs.Results.{on-equal}
use Rattle.book.specs.Asked.{IsAsked}
use Rattle.compiler.specs.Compiling.{compiled, returned, lent_after}
use Rattle.compiler.proofs.compile.Goals as goal

pub returns-in_err-n : goal.returns-in_err-n
unfolding compiled returned lent_after
returns-in_err-n c =
    let p = err_from_is_err_and c.from_residual.result c.from_residual.ensures.1 in
    let same = on-equal _ c.in_err-n.ensures in
    rw (p.1, p.2) (record { returning = ap returned same; leaving = ap (lent_after _) same })

pub returns : goal.returns
unfolding compiled
returns c =
    let f : IsAsked c.args.bytes.now c.args.condition c.ask.new.book c.in_ok-n.n = c.in_ok-n.ensures in
    let same = on-equal _ f.told in
    record {
      returning = c.compile_condition.ensures.condition_returns ∙ ap returned same;
      leaving = c.compile_condition.ensures.condition_leaves ∙ ap (lent_after _) same;
    }
