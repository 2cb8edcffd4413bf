use Rattle.std.proofs.Common.{◌∙◌}
use Rattle.convoy_batches.proofs.job_row.row_of.Goals as goal

pub returns : goal.returns
returns g c = λ job is. record { label = c.in_ok-label.ensures.items ∙ c.deref.ensures.value ∙ is.label; found = c.find_job-found.ensures job is }
