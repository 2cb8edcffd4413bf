use Rattle.std.proofs.Common.{◌∙◌, inr, refl}
use Rattle.std.proofs.lemmas.Result.{err_from_is_err_and}
use Rattle.convoy_budget.proofs.Refusals.{refused}
use Rattle.convoy_budget.proofs.answering.budget_answer.Goals as goal

pub returns-in_err-rows : goal.returns-in_err-rows
returns-in_err-rows g c =
    let returned = err_from_is_err_and c.from_residual-in_err-rows.result c.from_residual-in_err-rows.ensures.1 in
    rw (returned.1, returned.2)
    (refused c.args.format c.args.of_all c.args.of_ceiling c.args.asked.now c.args.options.now c.args.text.now c.span_of-span.result c.in_ok-input.input.scenario
    c.in_ok-instance.instance _ c.in_ok-input.ensures.read c.span_of-span.ensures.value (c.in_ok-instance.ensures ∙ c.in_ok-base.ensures) c.in_err-rows.ensures.err)

pub returns-in_err-text : goal.returns-in_err-text
returns-in_err-text g c =
    let returned = err_from_is_err_and c.from_residual-in_err-text.result c.from_residual-in_err-text.ensures.1 in
    rw (returned.1, returned.2) (inr refl)
