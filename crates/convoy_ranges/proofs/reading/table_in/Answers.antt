use Rattle.std.proofs.Common.{◌≡◌, ◌∙◌, sym, refl, rules, true, false, inl}
use Rattle.std.proofs.lemmas.Result.{err_from_is_err_and}
use Rattle.convoy_ranges.specs.Tables.{cells_of, head_of, rows_in}
use Rattle.convoy_lines.specs.Places.{past_line}
use Rattle.convoy_ranges.proofs.Chains.{then_goes, then_stops}
use Rattle.convoy_ranges.proofs.Seen.{blank_passed, head_met, none_met}
use Rattle.convoy_ranges.proofs.reading.table_in.Goals as goal

pub returns-in_default : goal.returns-in_default
returns-in_default c =
    let none = sym (rw c.in_default.is at c.line.ensures.line) in
    rw (none_met c.lines.reader _ none c.lines.invariant) (inl refl)

pub returns-in_err-head : goal.returns-in_err-head
returns-in_err-head c =
    let here = sym (rw c.in-Some.is at c.line.ensures.line) in
    let test : c.is_blank.result ≡ false = search rules in
    let some = rw c.in_ok-cells.ensures at (sym c.is_blank.ensures ∙ test) in
    let whole = head_met c.lines.reader c.in-Some.line.now _ here some c.lines.invariant in
    let told = rw (c.number-number.ensures.value, c.in_ok-cells.ensures) at c.in_err-head.ensures in
    let p = err_from_is_err_and c.from_residual-in_err-head.result c.from_residual-in_err-head.ensures.1 in
    rw (p.1, p.2, whole)
    (then_stops (head_of c.lines.reader.number (cells_of c.in-Some.line.now))
    (λ head. rows_in head (past_line c.lines.reader).number (past_line c.lines.reader).ended) _ told)

pub returns-then-not-is_blank : goal.returns-then-not-is_blank
returns-then-not-is_blank c =
    let here = sym (rw c.in-Some.is at c.line.ensures.line) in
    let test : c.is_blank.result ≡ false = search rules in
    let some = rw c.in_ok-cells.ensures at (sym c.is_blank.ensures ∙ test) in
    let whole = head_met c.lines.reader c.in-Some.line.now _ here some c.lines.invariant in
    let told = rw (c.number-number.ensures.value, c.in_ok-cells.ensures) at c.in_ok-head.ensures in
    let rows = rw c.line.ensures.place at c.rows_in.ensures in
    rw whole
    (then_goes (head_of c.lines.reader.number (cells_of c.in-Some.line.now))
    (λ head. rows_in head (past_line c.lines.reader).number (past_line c.lines.reader).ended) _ _ told rows)

pub lines-preserved : goal.lines-preserved
lines-preserved c =
    let here = sym (rw c.in-Some.is at c.line.ensures.line) in
    let test : c.is_blank.result ≡ true = search rules in
    let blank = rw c.in_ok-cells.ensures at (sym c.is_blank.ensures ∙ test) in
    rw c.line.ensures.place (blank_passed c.lines.reader c.in-Some.line.now _ here blank c.lines.invariant)
