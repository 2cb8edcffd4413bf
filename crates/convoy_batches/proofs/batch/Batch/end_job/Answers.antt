use Rattle.std.proofs.Common.{arith}
use Rattle.std.proofs.lemmas.Result.{err_from_is_err_and}
use Rattle.convoy_streams.specs.Splitting.{Holds}
use Rattle.convoy_commands.specs.declared.limits.TheConstants.{LONGEST_JOB}
use Rattle.convoy_batches.proofs.Blocks.{end_fails, end_most, end_ready, fresh}
use Rattle.convoy_batches.proofs.batch.Batch.end_job.Goals as goal

pub returns-in_err-answer : goal.returns-in_err-answer
returns-in_err-answer g c = λ start jobs job ready held.
    let returned = err_from_is_err_and c.from_residual.result c.from_residual.ensures.1 in
    rw (returned.1, returned.2) (end_fails _ _ _ _ start _ _ jobs job _ ready (c.in_err-answer.ensures.job job held))

pub returns-then-self-ge-MOST_JOBS : goal.returns-then-self-ge-MOST_JOBS
returns-then-self-ge-MOST_JOBS g c = λ start jobs job ready held.
    end_most _ _ _ _ _ start _ _ jobs job ready (omega (arith, c.answer.ensures.number, c.if-self-ge-MOST_JOBS.true)) (c.in_ok-answer.ensures.job job held)

pub returns : goal.returns
returns g c = λ start jobs job ready held.
    let same : Holds LONGEST_JOB c.answer.new.self.splitter job = rw c.answer.ensures.splitter held in (
      end_ready _ _ _ _ _ _ _ start _ _ jobs job ready (omega (arith, c.answer.ensures.number, c.if-self-ge-MOST_JOBS.false))
          (omega (arith, c.answer.ensures.number)) (c.in_ok-answer.ensures.job job held) c.in_ok-answer.ensures.end,
      fresh _ _ _ c.answer.ensures.splitter (c.start_next.ensures.begun LONGEST_JOB job same) (c.start_next.ensures.after LONGEST_JOB job same),
    )
