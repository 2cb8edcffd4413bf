use Rattle.std.proofs.Common.{◌≡◌, drop}
use Rattle.convoy_what_if.specs.Cells.{unchanged_latency}
use Rattle.convoy_what_if.proofs.folding.unchanged_latency.Given as goal

-- none of the rows so far is that of no change
abbrev pub invariant-loop-row : goal.invariant-loop-row
invariant-loop-row l = unchanged_latency (drop l.row-index l.rows) ≡ unchanged_latency l.rows
