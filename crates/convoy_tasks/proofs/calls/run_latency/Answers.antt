use Rattle.std.proofs.lemmas.Result.{err_from_is_err_and}
use Rattle.convoy_tasks.proofs.calls.run_latency.Goals as goal

pub returns-in_err-run_task : goal.returns-in_err-run_task
returns-in_err-run_task g c =
    let returned = err_from_is_err_and c.from_residual.result c.from_residual.ensures.1 in
    rw (returned.1, returned.2) (rw (c.as_written.ensures, c.most_reads-most_reads.ensures) at c.in_err-run_task.ensures)
