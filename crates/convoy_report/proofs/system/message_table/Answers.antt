use Rattle.std.proofs.Common.{List, ℕ, sym, ap, arith}
use Rattle.std.proofs.lemmas.List.FromFn.{map-range_with_len_more}
use Rattle.convoy_tables.specs.Tables.{Cell, Table}
use Rattle.convoy_report.specs.Systems.{message_cells, message_columns}
use Rattle.convoy_report.proofs.system.message_table.Goals as goal

pub loop-message-preserved : goal.loop-message-preserved
loop-message-preserved c =
    let cells : ℕ → List Cell = message_cells c.args.times.now c.args.deadlines.now c.args.scenario.now in
    let table : List (List Cell) → Table = λ rows. record { columns = message_columns c.args.times.now; rows = rows } in
    let m : ℕ = c.loop-message.message in
    rw (c.in_ok-push.ensures, c.loop-message.invariant, c.in_ok-cells.ensures) (ap table (sym (map-range_with_len_more cells 0 m m (omega arith))))
