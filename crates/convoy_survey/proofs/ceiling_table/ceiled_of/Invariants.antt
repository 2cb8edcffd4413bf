use Rattle.std.proofs.Common.{◌≡◌, take}
use Rattle.convoy_survey.specs.CeilingTables.{ceiled_of}
use Rattle.convoy_survey.proofs.ceiling_table.ceiled_of.Given as goal

-- of the rows so far those of the message are kept
abbrev pub invariant-loop-row : goal.invariant-loop-row
invariant-loop-row l = l.kept.items ≡ ceiled_of l.message (take l.row-index l.rows)
