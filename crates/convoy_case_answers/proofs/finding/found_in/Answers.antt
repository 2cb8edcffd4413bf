use Rattle.std.proofs.Common.{ap, refl}
use Rattle.std.proofs.lemmas.Result.{err_from_is_err_and}
use Rattle.convoy_case_answers.proofs.FoundCases.{back_refused, found_told, late_refused}
use Rattle.convoy_case_answers.proofs.finding.found_in.Goals as goal

pub returns-in_err-late_least : goal.returns-in_err-late_least
returns-in_err-late_least g c =
    let returned = err_from_is_err_and c.from_residual-in_err-late_least.result c.from_residual-in_err-late_least.ensures.1 in
    rw (returned.1, returned.2) (late_refused c.args.late.now c.args.asked.now c.args.text.now _ c.in_err-late_least.ensures)

pub returns-in_err-back_least : goal.returns-in_err-back_least
returns-in_err-back_least g c =
    let returned = err_from_is_err_and c.from_residual-in_err-back_least.result c.from_residual-in_err-back_least.ensures.1 in
    rw (returned.1, returned.2) (back_refused c.args.late.now c.args.asked.now c.args.text.now _ c.in_err-back_least.ensures)

pub returns-in_err-back_most : goal.returns-in_err-back_most
returns-in_err-back_most g c =
    let returned = err_from_is_err_and c.from_residual-in_err-back_most.result c.from_residual-in_err-back_most.ensures.1 in
    rw (returned.1, returned.2) (back_refused c.args.late.now c.args.asked.now c.args.text.now _ c.in_err-back_most.ensures)

pub returns : goal.returns
returns g c = (
  refl,
  found_told c.args.late.now c.args.asked.now c.args.options.now c.args.text.now c.in_ok-input.input.unit c.in_ok-input.input.deadlines.items c.in_ok-input.input.shares.items
      c.in_ok-input.input.scenario c.in_ok-instance.instance c.target_message.result c.in_ok-outcome.outcome _
      c.in_ok-input.ensures.read c.in_ok-input.ensures.unit c.in_ok-input.ensures.deadlines c.in_ok-input.ensures.shares
      (rw c.unit.ensures at c.of-measure.ensures) c.target_message.ensures.value (rw c.deref.ensures.value at c.deadline_at-deadline.ensures)
      c.in_ok-way.ensures
      c.in_ok-instance.ensures c.into_scenario.ensures.value c.into_scenario.ensures.lawful
      (rw c.deref-2.ensures.value at c.outside_told-outside.ensures) c.in_ok-outcome.ensures
      (ap (λ p. p.0) c.latencies_of-least.ensures) (ap (λ p. p.1) c.latencies_of-least.ensures) c.is_proved-is_proved.ensures
      c.in_ok-late_least.ensures c.in_ok-back_least.ensures c.in_ok-back_most.ensures,
)
