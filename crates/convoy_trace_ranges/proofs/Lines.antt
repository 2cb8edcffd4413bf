-- What the lines of a trace tell of packets, one after the other.
use Rattle.std.proofs.Common.{◌≡◌, ℕ, ◌+◌, true, false, List, Some, None, Result, Ok, Err, ap, sym, ◌∙◌, inl}
use Rattle.convoy_lines.specs.Places.{Place, line_at, past_line}
use Rattle.convoy_lines.specs.Results.{◌>>=◌}
use Rattle.convoy_draft.specs.declared.duration.TimeUnit.{TimeUnit}
use Rattle.convoy_ranges.specs.Tables.{cells_of, is_blank}
use Rattle.convoy_scenario.specs.Memory.{IsUnlessMemory}
use Rattle.convoy_traces.specs.declared.columns.Head.{Head}
use Rattle.convoy_traces.specs.declared.fault.TraceFault.{TraceFault}
use Rattle.convoy_traces.specs.declared.fault.TraceFault.TheVariants.{Empty, Memory}
use Rattle.convoy_traces.specs.Rows.{head_of}
use Rattle.convoy_traces.proofs.Chains.{goes_on, stops}
use Rattle.convoy_traces.proofs.Lines.{next_line, no_line}
use Rattle.convoy_trace_ranges.specs.Events.{Entry}
use Rattle.convoy_trace_ranges.specs.Reading.{rows_below, rows_from, table_in, with_line}
use Rattle.std.proofs.Common.{Option}

module _ (unit : Option TimeUnit) where
  module _ (head : Head) (p : Place) (line : List ℕ) (entries : List Entry) (total : Result (List Entry) TraceFault) (is : line_at p ≡ Some line)
      (so_far : rows_from unit head p.number entries p.ended ≡ total) where
    row_opened : (with_line unit head p.number entries line >>= (λ more. rows_from unit head (past_line p).number more (past_line p).ended)) ≡ total
    unfolding rows_from
    row_opened =
        let next = next_line p.ended p.rest p.number line is in
        sym (ap (rows_from unit head p.number entries) next.0
        ∙ ap (λ (n : ℕ). with_line unit head p.number entries line >>= (λ more. rows_from unit head n more (past_line p).ended)) (sym next.1))
        ∙ so_far

    pub row_more : (new : List Entry) → IsUnlessMemory Memory (with_line unit head p.number entries line) (Ok new)
        → rows_from unit head (past_line p).number new (past_line p).ended ≡ total
    row_more new told =
        goes_on (with_line unit head p.number entries line) (λ more. rows_from unit head (past_line p).number more (past_line p).ended) new total told row_opened

    pub row_stops : (fault : TraceFault) → IsUnlessMemory Memory (with_line unit head p.number entries line) (Err fault) → IsUnlessMemory Memory total (Err fault)
    row_stops fault told =
        stops (with_line unit head p.number entries line) (λ more. rows_from unit head (past_line p).number more (past_line p).ended) fault total told row_opened

  pub rows_done : (head : Head) (p : Place) (entries : List Entry) (total : Result (List Entry) TraceFault) → line_at p ≡ None
      → rows_from unit head p.number entries p.ended ≡ total → IsUnlessMemory Memory total (Ok entries)
  unfolding rows_from
  rows_done head p entries total is so_far =
      inl (sym (ap (rows_from unit head p.number entries) (no_line p.ended p.rest p.number is)) ∙ so_far)

  -- a blank line is passed over
  pub blank_passed : (p : Place) (line : List ℕ) (total : Result (List Entry) TraceFault) → line_at p ≡ Some line → is_blank (cells_of line) ≡ true
      → table_in unit p.number p.ended ≡ total
      → table_in unit (past_line p).number (past_line p).ended ≡ total
  unfolding table_in
  blank_passed p line total is blank so_far =
      let next = next_line p.ended p.rest p.number line is in
      rw next.1 (rw (next.0, blank) at so_far)

  -- the first line that is not blank
  pub head_met : (p : Place) (line : List ℕ) (total : Result (List Entry) TraceFault) → line_at p ≡ Some line → is_blank (cells_of line) ≡ false
      → table_in unit p.number p.ended ≡ total
      → (head_of p.number (cells_of line) >>= rows_below unit p.number line (past_line p).ended) ≡ total
  unfolding table_in
  head_met p line total is some so_far =
      let next = next_line p.ended p.rest p.number line is in
      rw (next.0, some) at so_far

  pub none_met : (p : Place) (total : Result (List Entry) TraceFault) → line_at p ≡ None → table_in unit p.number p.ended ≡ total → total ≡ Err Empty
  unfolding table_in
  none_met p total is so_far = sym (rw (no_line p.ended p.rest p.number is) at so_far)
