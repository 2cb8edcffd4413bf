use Rattle.std.proofs.Common.{◌≡◌, ◌++◌, map, take}
use Rattle.convoy_trace_ranges.specs.Beside.{row_of}
use Rattle.convoy_trace_ranges.proofs.beside.push_rows.Given as goal

-- the table with the rows so far
abbrev pub invariant-loop-link : goal.invariant-loop-link
invariant-loop-link l = l.table ≡ record l.initial.table { rows = l.initial.table.rows ++ map (row_of l.measure l.scenario) (take l.link-index l.links) }
