use Rattle.convoy_survey.proofs.CeilingRows.{ceiling_rows_at_all_enclose}
use Rattle.convoy_survey.proofs.survey_laws.ceiling_rows_at_all_enclose.Goals as goal

pub returns : goal.returns
returns c = ceiling_rows_at_all_enclose
