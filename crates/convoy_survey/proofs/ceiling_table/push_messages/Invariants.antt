use Rattle.std.proofs.Common.{◌≡◌, ◌++◌, flat_map}
use Rattle.std.specs.List.{range_with_len}
use Rattle.convoy_survey.specs.CeilingTables.{ceiled_lines, ceiled_of}
use Rattle.convoy_survey.proofs.ceiling_table.push_messages.Given as goal

-- the table with the messages so far
abbrev pub invariant-loop-message : goal.invariant-loop-message
invariant-loop-message l = l.table ≡ record l.initial.table {
  rows = l.initial.table.rows ++ flat_map (λ m. ceiled_lines l.times l.deadlines l.scenario (ceiled_of m l.rows)) (range_with_len 0 l.message);
}
