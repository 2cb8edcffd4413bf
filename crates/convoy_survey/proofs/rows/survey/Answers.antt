use Rattle.convoy_survey.proofs.AroundRows.{rows_around}
use Rattle.convoy_survey.proofs.rows.survey.Goals as goal

pub returns : goal.returns
returns g c =
    rows_around c.around_forgets_targets.ensures c.args.options.now c.args.span c.args.scenario.now c.in_ok-still.still c.in_ok-rows.rows.items
    c.in_ok-still.ensures c.in_ok-rows.ensures
