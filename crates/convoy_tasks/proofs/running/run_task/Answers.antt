use Rattle.std.proofs.Common.{Option}
use Rattle.std.specs.Option.{option_map}
use Rattle.std.proofs.lemmas.Result.{err_from_is_err_and}
use Rattle.convoy_commands.specs.declared.fault.Fault.TheVariants.{Write}
use Rattle.convoy_workflow_replies.specs.declared.reference.Reference.{Reference}
use Rattle.convoy_tasks.proofs.TaskFaults.{says_no_device}
use Rattle.convoy_tasks.proofs.TextRuns.{replied_so, unread_so}
use Rattle.convoy_tasks.proofs.running.run_task.Goals as goal

pub returns-in_err-text : goal.returns-in_err-text
returns-in_err-text g c =
    let returned = err_from_is_err_and c.from_residual.result c.from_residual.ensures.1 in
    rw (returned.1, returned.2) (unread_so _ _ _ _ (rw c.longest_of.ensures at c.in_err-text.ensures))

pub returns : goal.returns
returns g c =
    let wanted : Option Reference = option_map (λ r. r.now) c.args.wanted in
    replied_so _ _ _ (λ allowed. says_no_device c.args.task.now wanted c.in_ok-text.text.items Write allowed) (rw c.longest_of.ensures at c.in_ok-text.ensures) (rw c.deref.ensures.value at c.answer.ensures) c.write_answer.ensures
