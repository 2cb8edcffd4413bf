use Rattle.std.proofs.Common.{◌≡◌, List, [], ◌∷◌, ◌++◌, append_assoc, ap, codes, ◌∙◌}
use Rattle.convoy_tables.specs.Tables.{Cell, word}
use Rattle.convoy_survey.specs.Cells.{beside_columns}
use Rattle.convoy_survey.specs.Times.{where_told}
use Rattle.convoy_survey.proofs.table.push_ceiling_columns.Goals as goal

pub returns : goal.returns
returns c =
    let time : List Cell = where_told c.args.times.now (word (codes "ceiling_time") ∷ []) in
    let named : c.push_word.new.self ++ time ≡ c.args.columns.now ++ beside_columns c.args.times.now =
    ap (λ (cells : List Cell). cells ++ time) c.in_ok-push_word.ensures ∙ append_assoc c.args.columns.now (word (codes "ceiling") ∷ []) time in
    rw (← named) c.push_columns_if_told.ensures
