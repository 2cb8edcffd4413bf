use Rattle.std.proofs.Common.{◌≡◌, take}
use Rattle.convoy_outage_answers.specs.RowsThrough.{surveyed_of}
use Rattle.convoy_outage_answers.proofs.cells.surveyed_of.Given as goal

-- the rows so far without their latencies through outages
abbrev pub invariant-loop-row : goal.invariant-loop-row
invariant-loop-row l = l.surveyed.items ≡ surveyed_of (take l.row-index l.rows)
