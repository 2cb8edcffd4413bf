use Rattle.convoy_survey.proofs.Numbers.{finding_encloses}
use Rattle.convoy_batches.proofs.batch_laws.job_rows_enclose.Goals as goal

pub returns : goal.returns
returns c = λ asked settings text found searched. finding_encloses settings found.instance found.finding searched.finding
