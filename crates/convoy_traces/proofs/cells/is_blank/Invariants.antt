use Rattle.std.proofs.Common.{◌≡◌, drop}
use Rattle.csv.specs.Records.{fields_of}
use Rattle.convoy_ranges.specs.Tables.{is_blank}
use Rattle.convoy_traces.proofs.cells.is_blank.Given as goal

-- all is blank if what is left is
abbrev pub invariant-loop-place : goal.invariant-loop-place
invariant-loop-place l = is_blank (drop l.place (fields_of l.cells)) ≡ is_blank (fields_of l.cells)
