use Rattle.std.proofs.Common.{◌≡◌, true, false, List, [], ◌∷◌, ◌++◌, append_assoc, ap, codes, ◌∙◌}
use Rattle.convoy_tables.specs.Tables.{Cell, word}
use Rattle.convoy_survey.specs.CeilingTables.{number_columns}
use Rattle.convoy_survey.specs.Times.{where_told}
use Rattle.convoy_survey.proofs.ceiling_table.push_number_columns.Goals as goal

pub returns-in_ok-push_words : goal.returns-in_ok-push_words
returns-in_ok-push_words c =
    let words : List Cell = word (codes "ceiling") ∷ word (codes "outage_ceiling") ∷ word (codes "attained") ∷ [] in
    let times : List Cell = where_told c.args.times.now (word (codes "ceiling_time") ∷ word (codes "outage_ceiling_time") ∷ word (codes "attained_time") ∷ word (codes "unit") ∷ []) in
    let named : c.push_words.new.self ++ times ≡ c.args.columns.now ++ number_columns true c.args.times.now =
    ap (λ (cells : List Cell). cells ++ times) c.in_ok-push_words.ensures ∙ append_assoc c.args.columns.now words times in
    rw (c.if-with_outages.true, ← named) c.push_columns_if_told.ensures

pub returns-in_ok-push_words-2 : goal.returns-in_ok-push_words-2
returns-in_ok-push_words-2 c =
    let words : List Cell = word (codes "ceiling") ∷ word (codes "attained") ∷ [] in
    let times : List Cell = where_told c.args.times.now (word (codes "ceiling_time") ∷ word (codes "attained_time") ∷ word (codes "unit") ∷ []) in
    let named : c.push_words-else-with_outages.new.self ++ times ≡ c.args.columns.now ++ number_columns false c.args.times.now =
    ap (λ (cells : List Cell). cells ++ times) c.in_ok-push_words-2.ensures ∙ append_assoc c.args.columns.now words times in
    rw (c.if-with_outages.false, ← named) c.push_columns_if_told-else-with_outages.ensures
