use Rattle.convoy_survey.proofs.Numbers.{rows_enclose}
use Rattle.convoy_survey.proofs.survey_laws.rows_enclose.Goals as goal

pub returns : goal.returns
returns c = rows_enclose
