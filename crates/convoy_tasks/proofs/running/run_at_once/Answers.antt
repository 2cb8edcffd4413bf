use Rattle.std.proofs.Common.{None}
use Rattle.std.proofs.lemmas.Result.{err_from_is_err_and}
use Rattle.convoy_commands.specs.declared.fault.Fault.TheVariants.{Write}
use Rattle.convoy_tasks.proofs.TaskFaults.{says_no_device}
use Rattle.convoy_tasks.proofs.TextRuns.{replied_so, unread_so}
use Rattle.convoy_tasks.proofs.running.run_at_once.Goals as goal

pub returns-in_err-text : goal.returns-in_err-text
returns-in_err-text g c =
    let returned = err_from_is_err_and c.from_residual.result c.from_residual.ensures.1 in
    rw (returned.1, returned.2) (unread_so _ _ _ _ (rw c.longest_of.ensures at c.in_err-text.ensures))

pub returns : goal.returns
returns g c =
    replied_so _ _ _ (λ allowed. says_no_device c.args.task.now None c.in_ok-text.text.items Write allowed) (rw c.longest_of.ensures at c.in_ok-text.ensures) (rw c.deref.ensures.value at c.answer_at_once.ensures) c.write_answer.ensures
