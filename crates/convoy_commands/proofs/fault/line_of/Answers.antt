use Rattle.std.proofs.Common.{sym, append_assoc}
use Rattle.convoy_commands.specs.Faults.{fault_line_of}
use Rattle.convoy_commands.proofs.fault.line_of.Goals as goal

pub returns-in-Word : goal.returns-in-Word
unfolding fault_line_of
returns-in-Word c =
    let row = c.fault_row-number.ensures in
    let text = rw c.in-Word.is at row.text in
    simp (sym row.number, sym text, append_assoc) c.format.ensures.ok

pub returns-in-Number : goal.returns-in-Number
unfolding fault_line_of
returns-in-Number c =
    let row = c.fault_row-number.ensures in
    let text = rw c.in-Number.is at row.text in
    simp (sym row.number, sym text, append_assoc) c.format-in-Number.ensures.ok
