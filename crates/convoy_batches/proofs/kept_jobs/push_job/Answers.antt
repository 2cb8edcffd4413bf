use Rattle.std.proofs.Common.{◌∙◌}
use Rattle.std.proofs.lemmas.Slice.Zip.{all_zipped_more}
use Rattle.convoy_batches.specs.KeptJobs.{IsKeptJob}
use Rattle.convoy_batches.proofs.kept_jobs.push_job.Goals as goal

pub returns : goal.returns
returns c = λ before job are held.
    rw c.in_ok-push.ensures.items
    (all_zipped_more IsKeptJob before _ job _ are
    (record { label = c.in_ok-label.ensures.items ∙ c.label.ensures.label _ job held; text = c.text_of-text.ensures job held }))
