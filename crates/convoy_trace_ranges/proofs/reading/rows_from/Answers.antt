use Rattle.std.proofs.Common.{sym}
use Rattle.std.proofs.lemmas.Result.{err_from_is_err_and}
use Rattle.convoy_trace_ranges.proofs.Lines.{row_more, row_stops, rows_done}
use Rattle.convoy_trace_ranges.proofs.reading.rows_from.Goals as goal

pub returns-in_default : goal.returns-in_default
returns-in_default c =
    let none = sym (rw c.in_default.is at c.line.ensures.line) in
    rows_done c.args.unit c.args.head.now c.lines.reader c.lines.told _ none c.lines.invariant

pub lines-preserved : goal.lines-preserved
lines-preserved c =
    let here = sym (rw c.in-Some.is at c.line.ensures.line) in
    let told = rw c.number-number.ensures.value at c.in_ok-told.ensures in
    rw c.line.ensures.place
    (row_more c.args.unit c.args.head.now c.lines.reader c.in-Some.line.now c.lines.told _ here c.lines.invariant c.in_ok-told.told told)

pub returns-in_err-told : goal.returns-in_err-told
returns-in_err-told c =
    let here = sym (rw c.in-Some.is at c.line.ensures.line) in
    let told = rw c.number-number.ensures.value at c.in_err-told.ensures in
    let p = err_from_is_err_and c.from_residual.result c.from_residual.ensures.1 in
    rw (p.1, p.2) (row_stops c.args.unit c.args.head.now c.lines.reader c.in-Some.line.now c.lines.told _ here c.lines.invariant _ told)
