use Rattle.convoy_trace_ranges.proofs.reading.entry_in_text.Goals as goal

pub returns-in-Table : goal.returns-in-Table
returns-in-Table c = rw c.in-Table.is (rw c.requires at c.entry_in_cells.ensures)
