use Rattle.convoy_commands.specs.declared.limits.TheConstants.{LONGEST_JOB}
use Rattle.convoy_batches.proofs.Blocks.{job_ended}
use Rattle.convoy_batches.proofs.batch.Batch.take.Goals as goal

pub returns-then-take : goal.returns-then-take
returns-then-take g c = λ start text under.
    let ends = rw c.if-take.true at (c.take.ensures LONGEST_JOB text under.after) in
    job_ended _ _ start _ _ _ _ _ c.end_job.result (c.end_job.ensures start _ ends.job under.ready ends.held) ends.one_more ends.start
