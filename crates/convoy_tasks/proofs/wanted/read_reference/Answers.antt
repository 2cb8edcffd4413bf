use Rattle.std.proofs.lemmas.Result.{err_from_is_err_and}
use Rattle.convoy_tasks.proofs.ReferenceReads.{read_so, unread_so}
use Rattle.convoy_tasks.specs.WantedReads.{takes_others}
use Rattle.convoy_tasks.proofs.wanted.read_reference.Goals as goal

pub returns-in_err-text : goal.returns-in_err-text
returns-in_err-text g c =
    let returned = err_from_is_err_and c.from_residual.result c.from_residual.ensures.1 in
    rw (returned.1, returned.2) (unread_so (takes_others c.args.task.now) _ _ c.in_err-text.ensures)

pub returns : goal.returns
returns g c =
    read_so (takes_others c.args.task.now) _ c.in_ok-text.ensures
    (rw (c.takes_others.ensures, c.deref.ensures.value) at c.reference_of.ensures)
