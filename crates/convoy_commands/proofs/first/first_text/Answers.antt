use Rattle.std.proofs.Common.{inl, refl}
use Rattle.std.proofs.lemmas.Result.{err_from_is_err_and}
use Rattle.convoy_commands.proofs.FirstTexts.{text_refused, text_answered}
use Rattle.convoy_commands.proofs.first.first_text.Goals as goal

pub returns-in_err-input : goal.returns-in_err-input
returns-in_err-input c =
    let returned = err_from_is_err_and c.from_residual.result c.from_residual.ensures.1 in
    rw (returned.1, returned.2) (text_refused c.args.asked.now _ _ c.in_err-input.ensures.scenario)

pub returns : goal.returns
returns c =
    inl (rw (text_answered c.args.asked.now c.args.text.now _ c.in_ok-input.ensures.scenario, c.in_ok-attained.ensures, c.in_ok-instance.ensures) refl)
