use Rattle.std.proofs.Common.{ℕ, List, ◌++◌, append_assoc, flat_map, ap, sym, ◌∙◌}
use Rattle.std.specs.List.{range_with_len}
use Rattle.convoy_stamps.proofs.Loops.{flat_map_range_more}
use Rattle.convoy_tables.specs.Tables.{Cell, Table}
use Rattle.convoy_survey.specs.CeilingTables.{ceiled_lines, ceiled_of}
use Rattle.convoy_survey.proofs.ceiling_table.push_messages.Goals as goal

pub loop-message-preserved : goal.loop-message-preserved
loop-message-preserved c =
    let before : Table = c.args.table.now in
    let lines : ℕ → List (List Cell) = λ m. ceiled_lines c.args.times.now c.args.deadlines.now c.args.scenario.now (ceiled_of m c.args.rows.now) in
    let m : ℕ = c.loop-message.message in
    rw (c.in_ok-push_message.ensures, c.loop-message.invariant, c.deref.ensures.value, c.in_ok-of_message.ensures)
    (ap (λ (rows : List (List Cell)). record before { rows = rows })
    (append_assoc before.rows (flat_map lines (range_with_len 0 m)) (lines m)
    ∙ ap (λ (more : List (List Cell)). before.rows ++ more) (sym (flat_map_range_more lines m))))
