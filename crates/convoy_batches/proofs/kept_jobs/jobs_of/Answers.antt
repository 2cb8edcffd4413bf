use Rattle.std.proofs.Common.{List, ℕ, [], ◌∷◌, ◌++◌, take, true, false, ap, sym, subst, ◌∙◌, append_assoc}
use Rattle.std.proofs.lemmas.List.{take_all}
use Rattle.convoy_streams.specs.Jobs.{Job, begun, ended_jobs, jobs_of}
use Rattle.convoy_streams.specs.Splitting.{Finishes, next_label_of}
use Rattle.convoy_commands.specs.declared.limits.TheConstants.{LONGEST_JOB}
use Rattle.convoy_batches.specs.KeptJobs.{AreKeptJobs}
use Rattle.convoy_batches.proofs.kept_jobs.jobs_of.Goals.{then-finish+in_ok-push_job-2, else-finish}
use Rattle.convoy_batches.proofs.kept_jobs.jobs_of.Goals as goal

pub returns : goal.returns
returns c =
    let text : List ℕ = take c.loop-byte.byte-index c.args.text.now in
    let P : List Job → Type 0 = λ jobs. AreKeptJobs jobs c.push_job-2.new.jobs.items in
    let whole = ap jobs_of (take_all c.loop-byte.byte-index c.args.text.now c.loop-byte-test.false) in
    let ends = c.finish.ensures LONGEST_JOB text c.loop-byte.invariant.after in
    elim c.if-finish.branch [
      | then-finish+in_ok-push_job-2 w ↦
          let last : Finishes LONGEST_JOB c.finish.new.self text true = rw w.if-finish.true at ends in
          let next : Job = begun (next_label_of c.finish.new.self) in
          let before = w.in_ok-push_job-2.ensures (ended_jobs text) last.job c.loop-byte.invariant.kept last.held in
          let empty = w.start_next-then-finish.ensures.begun LONGEST_JOB last.job last.held in
          subst P (append_assoc (ended_jobs text) (last.job ∷ []) (next ∷ []) ∙ sym last.all ∙ whole)
          (c.in_ok-push_job-3.ensures (ended_jobs text ++ last.job ∷ []) next (rw w.jobs-is before) (rw w.splitter-is empty.held))
      | else-finish w ↦
          let last : Finishes LONGEST_JOB c.finish.new.self text false = rw w.if-finish.false at ends in
          subst P (sym last.all ∙ whole)
          (c.in_ok-push_job-3.ensures (ended_jobs text) last.job (rw w.jobs-is c.loop-byte.invariant.kept) (rw w.splitter-is last.held))
    ]
