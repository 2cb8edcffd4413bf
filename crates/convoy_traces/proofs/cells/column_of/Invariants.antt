use Rattle.std.proofs.Common.{◌≡◌, drop}
use Rattle.csv.specs.Records.{fields_of}
use Rattle.convoy_traces.specs.Rows.{numbered}
use Rattle.convoy_traces.proofs.cells.column_of.Given as goal

-- the place is that of the first among the cells that are left
abbrev pub invariant-loop-place : goal.invariant-loop-place
invariant-loop-place l = numbered l.place (drop l.place (fields_of l.cells)) l.word ≡ numbered 0 (fields_of l.cells) l.word
