use Rattle.std.proofs.Common.{inl, refl}
use Rattle.std.proofs.lemmas.Result.{err_from_is_err_and}
use Rattle.convoy_commands.specs.Tells.{scheduled_told}
use Rattle.convoy_commands.proofs.TellTexts.{made_answered, made_refused}
use Rattle.convoy_commands.proofs.telling.told_with_schedule.Goals as goal

pub returns-in_err-scheduled : goal.returns-in_err-scheduled
unfolding scheduled_told
returns-in_err-scheduled c =
    let returned = err_from_is_err_and c.from_residual.result c.from_residual.ensures.1 in
    rw (returned.1, returned.2) (made_refused _ _ _ c.in_err-scheduled.ensures)

pub returns : goal.returns
unfolding scheduled_told
returns c = inl (rw (made_answered _ _ _ c.in_ok-scheduled.ensures, c.in_ok-told.ensures) refl)
