use Rattle.convoy_survey.proofs.time_cells.push_columns_if_told.Goals as goal

pub returns-then-times : goal.returns-then-times
returns-then-times c = rw c.if-times.true c.push_words.ensures
