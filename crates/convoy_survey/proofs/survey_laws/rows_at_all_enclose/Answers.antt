use Rattle.convoy_survey.proofs.AtAlls.{rows_at_all_enclose}
use Rattle.convoy_survey.proofs.survey_laws.rows_at_all_enclose.Goals as goal

pub returns : goal.returns
returns c = rows_at_all_enclose
