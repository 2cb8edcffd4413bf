use Rattle.convoy_survey.proofs.Numbers.{rows_are_latencies}
use Rattle.convoy_survey.proofs.survey_laws.rows_are_latencies.Goals as goal

pub returns : goal.returns
returns c = rows_are_latencies
