use Rattle.std.proofs.Common.{◌≡◌, ◌≤◌, filter, length, take}
use Rattle.convoy_what_if.specs.Cells.{leaves_latency}
use Rattle.convoy_what_if.proofs.folding.count_leaving.Given as goal

-- how many of the rows so far, which are no more than these
abbrev pub invariant-loop-row : goal.invariant-loop-row
invariant-loop-row l = record {
  counted : l.count ≡ length (filter (leaves_latency l.unchanged) (take l.row-index l.rows));
  few : l.count ≤ l.row-index;
}
