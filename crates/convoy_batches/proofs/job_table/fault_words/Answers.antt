use Rattle.std.proofs.Common.{sym}
use Rattle.convoy_batches.proofs.JobCells.{words_of_fault}
use Rattle.convoy_batches.proofs.job_table.fault_words.Goals as goal

pub returns-in-Word : goal.returns-in-Word
returns-in-Word c =
    let row = c.fault_row-number.ensures in
    let text = rw c.in-Word.is at row.text in
    rw (words_of_fault c.args.fault.now) (simp (sym row.number, sym text) c.format.ensures.ok)

pub returns-in-Number : goal.returns-in-Number
returns-in-Number c =
    let row = c.fault_row-number.ensures in
    let text = rw c.in-Number.is at row.text in
    rw (words_of_fault c.args.fault.now) (simp (sym row.number, sym text) c.format-in-Number.ensures.ok)
