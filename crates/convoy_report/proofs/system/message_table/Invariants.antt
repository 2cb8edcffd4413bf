use Rattle.std.proofs.Common.{◌≡◌, map}
use Rattle.std.specs.List.{range_with_len}
use Rattle.convoy_report.specs.Systems.{message_cells, message_columns}
use Rattle.convoy_report.proofs.system.message_table.Given as goal

-- the table of the messages so far
abbrev pub invariant-loop-message : goal.invariant-loop-message
invariant-loop-message l = l.table ≡ record {
  columns = message_columns l.times;
  rows = map (message_cells l.times l.deadlines l.scenario) (range_with_len 0 l.message);
}
