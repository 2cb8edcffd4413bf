use Rattle.std.proofs.Common.{sym, append_assoc}
use Rattle.std.specs.Fmt.{digits}
use Rattle.convoy_commands.specs.Refusals.{refused_line}
use Rattle.convoy_commands.proofs.refusal.line_of_scenario.Goals as goal

pub returns-in-Word : goal.returns-in-Word
unfolding refused_line digits
returns-in-Word c =
    let row = c.scenario_row-number.ensures in
    let text = rw c.in-Word.is at row.text in
    simp (sym row.number, sym text, append_assoc) c.format.ensures.ok

pub returns-in-Number : goal.returns-in-Number
unfolding refused_line digits
returns-in-Number c =
    let row = c.scenario_row-number.ensures in
    let text = rw c.in-Number.is at row.text in
    simp (sym row.number, sym text, append_assoc) c.format-in-Number.ensures.ok
