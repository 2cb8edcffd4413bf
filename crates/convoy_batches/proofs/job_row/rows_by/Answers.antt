use Rattle.convoy_rows.proofs.OfKeys.{by_keys}
use Rattle.convoy_batches.specs.JobRows.{MayBeRow}
use Rattle.convoy_batches.proofs.job_row.rows_by.Goals as goal

pub returns : goal.returns
returns g c = by_keys _ (MayBeRow c.args.asked.now c.args.options.now) _ c.in_ok-rows.rows.items (λ lent watch row made. made) c.in_ok-rows.ensures
