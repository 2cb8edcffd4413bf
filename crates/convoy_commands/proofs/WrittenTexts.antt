-- A text that one command writes of a scenario with a schedule gives another command both.
use Rattle.std.proofs.Common.{◌≡◌, ℤ, List, Option, Some, None, Ok, refl, sym, ap, ◌∙◌}
use Rattle.std.specs.Option.{MatchOption}
use Rattle.std.specs.Result.{result_map_both}
use Rattle.convoy_draft.specs.declared.time.Time.TheVariants.{Real}
use Rattle.convoy_scenario.specs.Scenario.{Scenario}
use Rattle.convoy_packets.specs.Assignment.{Schedule}
use Rattle.convoy_packets.specs.Order.{Order, no_order}
use Rattle.convoy_packets.specs.OrderLists.{order_given}
use Rattle.convoy_toml.specs.Reading.{InputView}
use Rattle.convoy_toml_writer.specs.WrittenTextLaws.{GivesSchedule, SchedulesAreGiven, TextsAreRead, input_for}
use Rattle.convoy_commands.specs.Faults.{told_of_order}
use Rattle.convoy_commands.specs.CommandLaws.{WrittenTextsAreTold}
use Rattle.convoy_commands.specs.Schedules.{chosen_order, order_in, scheduled_by, scheduled_of_input}

order_chosen : (scenario : Scenario) (given : Option (List ℤ)) (order : Order)
    → MatchOption given (order ≡ no_order) (λ ranks. (scenario.time ≡ Real) × (order_given scenario ranks ≡ Ok order)) → chosen_order scenario given ≡ Ok order
order_chosen scenario None order is = ap Ok (sym is)
order_chosen scenario (Some ranks) order is =
    ap (λ time. order_in time scenario ranks) is.0 ∙ ap (result_map_both (λ o. o) told_of_order) is.1

both_given : (given : InputView) (schedule : Schedule) → GivesSchedule given schedule → scheduled_by given ≡ Ok (record { scenario = given.scenario; schedule = schedule })
both_given given schedule is = rw (is.there, is.delays, order_chosen given.scenario given.order schedule.order is.order) refl

pub written_told : TextsAreRead → SchedulesAreGiven → WrittenTextsAreTold
written_told read given scenario schedule is assigned =
    ap scheduled_of_input (read scenario schedule is assigned) ∙ both_given (input_for scenario schedule) schedule (given scenario schedule is assigned)
