use Rattle.std.proofs.Common.{◌≡◌, ◌++◌, take}
use Rattle.std.specs.List.{flat_map}
use Rattle.convoy_tables.specs.Formats.{html_cell}
use Rattle.convoy_tables.proofs.html.push_cells.Given as goal

-- the cells so far
abbrev pub invariant-loop-cell : goal.invariant-loop-cell
invariant-loop-cell l = l.out.items ≡ l.initial.out.items ++ flat_map html_cell (take l.cell-index l.cells)
