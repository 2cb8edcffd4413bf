use Rattle.std.proofs.Common.{◌≡◌, ◌++◌, map, take}
use Rattle.convoy_trace_ranges.specs.LinkTables.{row_of}
use Rattle.convoy_trace_ranges.proofs.tables.push_rows.Given as goal

-- the table with the rows so far
abbrev pub invariant-loop-link : goal.invariant-loop-link
invariant-loop-link l = l.table ≡ record l.initial.table { rows = l.initial.table.rows ++ map (row_of l.unit) (take l.link-index l.links) }
