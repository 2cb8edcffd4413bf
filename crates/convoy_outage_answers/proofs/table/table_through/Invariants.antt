use Rattle.std.proofs.Common.{◌≡◌, flat_map}
use Rattle.std.specs.List.{range_with_len}
use Rattle.convoy_outage_answers.specs.TablesThrough.{columns_through, lines_through, rows_through_of}
use Rattle.convoy_outage_answers.proofs.table.table_through.Given as goal

-- the table of the messages so far
abbrev pub invariant-loop-message : goal.invariant-loop-message
invariant-loop-message l = l.table ≡ record {
  columns = columns_through l.with_ceilings l.times l.deadlines;
  rows = flat_map (λ m. lines_through l.with_ceilings l.times l.deadlines l.scenario (rows_through_of m l.rows)) (range_with_len 0 l.message);
}
