use Rattle.std.proofs.Common.{[], ◌∷◌, sym, ◌∙◌, append_assoc}
use Rattle.std.proofs.lemmas.Result.{err_from_is_err_and}
use Rattle.convoy_commands.specs.declared.limits.TheConstants.{LONGEST_JOB}
use Rattle.convoy_batches.proofs.Blocks.{last_answered, last_stops}
use Rattle.convoy_batches.proofs.batch.Batch.finish.Goals as goal

pub returns-then-not-finish : goal.returns-then-not-finish
returns-then-not-finish g c = λ start text under.
    let ends = rw c.if-not-finish.true at (c.finish.ensures LONGEST_JOB text under.after) in
    last_answered _ _ _ _ start _ _ text _ ends.job c.answer.result under.ready (c.answer.ensures.job ends.job ends.held) ends.all

pub returns-in_err-end_job : goal.returns-in_err-end_job
returns-in_err-end_job g c = λ start text under.
    let ends = rw c.if-not-finish.false at (c.finish.ensures LONGEST_JOB text under.after) in
    let returned = err_from_is_err_and c.from_residual.result c.from_residual.ensures.1 in
    rw (returned.1, returned.2)
    (last_stops _ _ start _ text _ ends.job _ _ (c.in_err-end_job.ensures start _ ends.job under.ready ends.held)
    (ends.all ∙ sym (append_assoc _ (ends.job ∷ []) _)))

pub returns : goal.returns
returns g c = λ start text under.
    let ends = rw c.if-not-finish.false at (c.finish.ensures LONGEST_JOB text under.after) in
    let next = c.in_ok-end_job.ensures start _ ends.job under.ready ends.held in
    last_answered _ _ _ _ start _ _ text _ _ c.answer-2.result next.0 (c.answer-2.ensures.job _ next.1.empty)
    (ends.all ∙ sym (append_assoc _ (ends.job ∷ []) _))
