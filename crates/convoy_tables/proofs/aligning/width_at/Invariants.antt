use Rattle.std.proofs.Common.{◌≡◌, map, max, drop}
use Rattle.std.specs.List.{fold}
use Rattle.convoy_tables.specs.Formats.{shown_width, width_at}
use Rattle.convoy_tables.proofs.aligning.width_at.Given as goal

-- with the rows that are left the width is that of the column
abbrev pub invariant-loop-row : goal.invariant-loop-row
invariant-loop-row l =
    fold max l.width (map (shown_width l.column) (drop l.row-index l.rows)) ≡ width_at l.names l.rows l.column
