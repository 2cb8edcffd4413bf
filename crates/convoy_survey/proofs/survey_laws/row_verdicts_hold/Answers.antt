use Rattle.convoy_survey.proofs.RowVerdicts.{row_verdicts_hold}
use Rattle.convoy_survey.proofs.survey_laws.row_verdicts_hold.Goals as goal

pub returns : goal.returns
returns c = row_verdicts_hold c.verdicts_hold.ensures
