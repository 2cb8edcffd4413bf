use Rattle.std.proofs.Common.{◌≡◌, flat_map}
use Rattle.std.specs.List.{range_with_len}
use Rattle.convoy_survey.specs.AtAll.{rows_of}
use Rattle.convoy_survey.specs.Cells.{columns_of, message_lines}
use Rattle.convoy_survey.proofs.table.survey_table.Given as goal

-- the table of the messages so far
abbrev pub invariant-loop-message : goal.invariant-loop-message
invariant-loop-message l = l.table ≡ record {
  columns = columns_of l.with_ceilings l.times l.deadlines;
  rows = flat_map (λ m. message_lines l.with_ceilings l.times l.deadlines l.scenario (rows_of m l.rows)) (range_with_len 0 l.message);
}
