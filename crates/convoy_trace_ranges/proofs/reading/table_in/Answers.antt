use Rattle.std.proofs.Common.{◌≡◌, ◌∙◌, sym, refl, rules, true, false, inl}
use Rattle.std.proofs.lemmas.Result.{err_from_is_err_and}
use Rattle.convoy_lines.specs.Places.{past_line}
use Rattle.convoy_ranges.specs.Tables.{cells_of}
use Rattle.convoy_traces.specs.Rows.{head_of}
use Rattle.convoy_trace_ranges.specs.Reading.{rows_below}
use Rattle.convoy_traces.proofs.Chains.{stops, then_goes}
use Rattle.convoy_trace_ranges.proofs.Lines.{blank_passed, head_met, none_met}
use Rattle.convoy_traces.proofs.Lines.{numbered_next}
use Rattle.convoy_trace_ranges.proofs.reading.table_in.Goals as goal

pub returns-in_default : goal.returns-in_default
returns-in_default c =
    let none = sym (rw c.in_default.is at c.line.ensures.line) in
    rw (none_met c.args.unit c.lines.reader _ none c.lines.invariant) (inl refl)

pub returns-in_err-head : goal.returns-in_err-head
returns-in_err-head c =
    let here = sym (rw c.in-Some.is at c.line.ensures.line) in
    let test : c.is_blank.result ≡ false = search rules in
    let some = rw c.in_ok-cells.ensures at (sym c.is_blank.ensures ∙ test) in
    let whole = head_met c.args.unit c.lines.reader c.in-Some.line.now _ here some c.lines.invariant in
    let told = rw (c.number-number.ensures.value, c.in_ok-cells.ensures) at (sym c.head_of.ensures ∙ c.in_err-head.was) in
    let p = err_from_is_err_and c.from_residual-in_err-head.result c.from_residual-in_err-head.ensures.1 in
    rw (p.1, p.2)
    (stops (head_of c.lines.reader.number (cells_of c.in-Some.line.now))
    (rows_below c.args.unit c.lines.reader.number c.in-Some.line.now (past_line c.lines.reader).ended) _ _ (inl (sym told)) whole)

pub returns-then-not-is_blank : goal.returns-then-not-is_blank
returns-then-not-is_blank c =
    let here = sym (rw c.in-Some.is at c.line.ensures.line) in
    let test : c.is_blank.result ≡ false = search rules in
    let some = rw c.in_ok-cells.ensures at (sym c.is_blank.ensures ∙ test) in
    let whole = head_met c.args.unit c.lines.reader c.in-Some.line.now _ here some c.lines.invariant in
    let told = rw (c.number-number.ensures.value, c.in_ok-cells.ensures) at (sym c.head_of.ensures ∙ c.in_ok-head.was) in
    let rows = rw (c.number-number.ensures.value, c.line.ensures.place) at c.rows_below.ensures in
    rw (sym whole)
    (then_goes (head_of c.lines.reader.number (cells_of c.in-Some.line.now))
    (rows_below c.args.unit c.lines.reader.number c.in-Some.line.now (past_line c.lines.reader).ended) _ _ (inl (sym told)) rows)

pub lines-preserved : goal.lines-preserved
lines-preserved c =
    let here = sym (rw c.in-Some.is at c.line.ensures.line) in
    let test : c.is_blank.result ≡ true = search rules in
    let blank = rw c.in_ok-cells.ensures at (sym c.is_blank.ensures ∙ test) in
    rw c.line.ensures.place (blank_passed c.args.unit c.lines.reader c.in-Some.line.now _ here blank c.lines.invariant)

pub rows_below-requires : goal.rows_below-requires
rows_below-requires c =
    let here = sym (rw c.in-Some.is at c.line.ensures.line) in
    rw (c.line.ensures.place, c.number-number.ensures.value) (numbered_next c.lines.reader c.in-Some.line.now here)
