use Rattle.convoy_kinds_told.proofs.table.push_time_columns.Goals as goal

pub returns-then-told : goal.returns-then-told
returns-then-told c = rw c.if-told.true c.push_words.ensures
