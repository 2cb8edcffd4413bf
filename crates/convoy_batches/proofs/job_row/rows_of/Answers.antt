use Rattle.convoy_streams.specs.Jobs.{jobs_of}
use Rattle.convoy_batches.proofs.KeptRows.{all_found}
use Rattle.convoy_batches.proofs.job_row.rows_of.Goals as goal

pub returns : goal.returns
returns g c =
    all_found c.args.asked.now c.args.options.now (jobs_of c.args.text.now) c.in_ok-jobs.jobs.items c.in_ok-rows.rows.items c.in_ok-all_values.field-0
    c.in_ok-jobs.ensures (rw c.deref.ensures.value at c.in_ok-rows.ensures) c.in_ok-all_values.ensures
