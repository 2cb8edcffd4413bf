use Rattle.std.proofs.Common.{All, List, subst, sym}
use Rattle.convoy_survey.specs.declared.finding.Surveyed.{Surveyed}
use Rattle.convoy_survey.specs.Findings.{target_of}
use Rattle.convoy_survey.specs.Surveys.{IsTargetPair}
use Rattle.convoy_outage_answers.proofs.SurveyedRows.{rows_have_targets, rows_of_survey}
use Rattle.convoy_outage_answers.proofs.rows.survey_through.Goals as goal

pub rows_through-requires-clause-targets : goal.rows_through-requires-clause-targets
rows_through-requires-clause-targets g c = λ κs outlive.
    subst (λ (rows : List Surveyed). All (λ (row : Surveyed). IsTargetPair c.in_ok-still.still (target_of row)) rows) (sym c.deref.ensures.value)
    (rows_have_targets c.room_is_decided.ensures c.args.options.now c.args.span c.args.scenario.now c.in_ok-still.still c.in_ok-surveyed.surveyed.items
    c.in_ok-still.ensures c.in_ok-surveyed.ensures)

pub returns : goal.returns
returns g c =
    rows_of_survey c.around_forgets_targets.ensures c.args.options.now c.args.outage c.args.span c.args.scenario.now c.in_ok-still.still
    c.in_ok-surveyed.surveyed.items c.in_ok-rows.rows.items
    c.in_ok-still.ensures c.in_ok-surveyed.ensures (rw c.deref.ensures.value at c.in_ok-rows.ensures.rows) c.in_ok-rows.ensures.told
