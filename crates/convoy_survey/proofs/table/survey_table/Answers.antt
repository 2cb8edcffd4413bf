use Rattle.std.proofs.Common.{◌<◌, ℕ, List, length, ap, subst, sym}
use Rattle.convoy_stamps.proofs.Loops.{flat_map_range_more}
use Rattle.convoy_tables.specs.Tables.{Cell, Table}
use Rattle.convoy_survey.specs.AtAll.{rows_of}
use Rattle.convoy_survey.specs.Cells.{columns_of, message_lines}
use Rattle.convoy_survey.proofs.AtAlls.{rows_known}
use Rattle.convoy_survey.proofs.table.survey_table.Goals as goal

pub push_message-requires : goal.push_message-requires
push_message-requires c =
    let count : ℕ = length c.args.scenario.now.multicasts in
    let m : ℕ = c.loop-message.message in
    let known : m < count = subst (λ (n : ℕ). m < n) c.message_count-message-end.ensures.value c.loop-message-test.true in
    rw (c.deref.ensures.value, c.in_ok-of_message.ensures) (rows_known count m c.args.rows.now known)

pub loop-message-preserved : goal.loop-message-preserved
loop-message-preserved c =
    let lines : ℕ → List (List Cell) = λ m. message_lines c.args.with_ceilings c.args.times.now c.args.deadlines.now c.args.scenario.now (rows_of m c.args.rows.now) in
    let table : List (List Cell) → Table = λ rows. record { columns = columns_of c.args.with_ceilings c.args.times.now c.args.deadlines.now; rows = rows } in
    rw (c.in_ok-push_message.ensures, c.loop-message.invariant, c.deref.ensures.value, c.in_ok-of_message.ensures)
    (ap table (sym (flat_map_range_more lines c.loop-message.message)))
