use Rattle.std.proofs.Common.{sym}
use Rattle.std.proofs.lemmas.Result.{err_from_is_err_and}
use Rattle.convoy_traces.proofs.Lines.{row_more, row_stops, rows_done}
use Rattle.convoy_traces.proofs.reading.rows_from.Goals as goal

pub returns-in_default : goal.returns-in_default
returns-in_default c =
    let none = sym (rw c.in_default.is at c.line.ensures.line) in
    rows_done c.args.scenario.now c.args.clock c.args.head.now c.lines.reader c.lines.told.items _ none c.lines.invariant

pub lines-preserved : goal.lines-preserved
lines-preserved c =
    let here = sym (rw c.in-Some.is at c.line.ensures.line) in
    let told = rw c.number-number.ensures.value at c.in_ok-push_line.ensures in
    rw c.line.ensures.place
    (row_more c.args.scenario.now c.args.clock c.args.head.now c.lines.reader c.in-Some.line.now c.lines.told.items _ here c.lines.invariant c.push_line.new.entries.items told)

pub returns-in_err-push_line : goal.returns-in_err-push_line
returns-in_err-push_line c =
    let here = sym (rw c.in-Some.is at c.line.ensures.line) in
    let told = rw c.number-number.ensures.value at c.in_err-push_line.ensures in
    let p = err_from_is_err_and c.from_residual.result c.from_residual.ensures.1 in
    rw (p.1, p.2)
    (row_stops c.args.scenario.now c.args.clock c.args.head.now c.lines.reader c.in-Some.line.now c.lines.told.items _ here c.lines.invariant _ told)
