use Rattle.std.proofs.Common.{◌≡◌, ◌++◌, take}
use Rattle.std.specs.List.{flat_map}
use Rattle.convoy_tables.specs.Formats.{line_text}
use Rattle.convoy_tables.proofs.lines.lines_of.Given as goal

-- the line of the names, and those of the rows so far
abbrev pub invariant-loop-row : goal.invariant-loop-row
invariant-loop-row l =
    l.text.items ≡ line_text l.widths l.table.columns ++ flat_map (line_text l.widths) (take l.row-index l.row-items)
