use Rattle.convoy_best_order.proofs.table.push_time_columns.Goals as goal

pub returns-then-times : goal.returns-then-times
returns-then-times c = rw c.if-times.true c.push_words.ensures
