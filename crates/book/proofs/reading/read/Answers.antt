-- `book::reading::read`: before each line what the code has is the definition's, which goes on from there as the whole book does.
use Rattle.std.proofs.Common.{sym, ◌∙◌, arith}
use Rattle.std.proofs.lemmas.Result.{err_from_is_err_and}
use Rattle.text.proofs.TextLaws.{end-within}
use Rattle.book.specs.Acceptance.{no_line}
use Rattle.book.proofs.ReadLaws.{read-too-long, going-first, going-refused, going_on, going-end}
use Rattle.book.proofs.reading.read.Goals as goal

pub returns-then-not-book_fits : goal.returns-then-not-book_fits
returns-then-not-book_fits c = sym (read-too-long _ (sym c.book_fits.ensures ∙ c.if-not-book_fits.true))

pub loop-at-init : goal.loop-at-init
unfolding no_line
loop-at-init c = (omega arith, rw c.clear.ensures (going-first _ (sym c.book_fits.ensures ∙ c.if-not-book_fits.false)))

pub slice_bounds-read_line-end : goal.slice_bounds-read_line-end
slice_bounds-read_line-end c = end-within 10 c.args.bytes.now c.loop-at.at _ (omega arith) c.line_end-end.ensures

pub returns-in_err-state : goal.returns-in_err-state
returns-in_err-state c =
    let p = err_from_is_err_and c.from_residual.result c.from_residual.ensures.1 in
    rw (p.1, p.2) (going-refused _ _ _ _ _ c.loop-at.invariant.1 c.loop-at-test.true c.line_end-end.ensures _ _ c.in_err-state.ensures)

pub loop-at-preserved : goal.loop-at-preserved
loop-at-preserved c =
    (omega (arith, c.line_end-end.ensures), going_on _ _ _ _ _ c.loop-at.invariant.1 c.loop-at-test.true c.line_end-end.ensures _ c.in_ok-state.ensures)

pub returns : goal.returns
returns c = going-end _ _ _ _ c.loop-at.invariant.1 c.loop-at-test.false
