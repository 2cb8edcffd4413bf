-- The scenario and the schedule of which a run is told.
use Rattle.std.specs.Prelude.{ℕ, ℤ, List, Option, Some, None, Result, Ok, Err}
use Rattle.std.specs.Result.{result_map_both}
use Rattle.convoy_lines.specs.Results.{◌>>=◌}
use Rattle.convoy_toml.specs.Reading.{InputView, input_of_text}
use Rattle.convoy_scenario.specs.Scenario.{Scenario}
use Rattle.convoy_draft.specs.declared.fault.ScenarioFault.{ScenarioFault}
use Rattle.convoy_draft.specs.declared.time.Time.{Time}
use Rattle.convoy_draft.specs.declared.time.Time.TheVariants.{Ticks, Real}
use Rattle.convoy_packets.specs.Assignment.{Schedule, ranges_of}
use Rattle.convoy_packets.specs.Given.{schedule_of}
use Rattle.convoy_packets.specs.Order.{Order, no_order}
use Rattle.convoy_packets.specs.OrderLists.{order_given}
use Rattle.convoy_packets.specs.Table.{least_of}
use Rattle.convoy_sim.specs.Scheduled.{Scheduled}
use Rattle.convoy_certificate.specs.Certificate.{Certificate}
use Rattle.convoy_commands.specs.declared.fault.Fault.{Fault}
use Rattle.convoy_commands.specs.declared.fault.Fault.TheVariants as faults
use Rattle.convoy_commands.specs.declared.fault.OrderFault.TheVariants.{InTicks}
use Rattle.convoy_commands.specs.Faults.{told_of, told_of_list, told_of_order}

-- the schedule of the delays that are given, or where none are of the least delays
abbrev pub chosen_schedule : List (ℕ × ℕ) → Option (List ℤ) → Result Schedule Fault
chosen_schedule ranges None = Ok (least_of ranges)
chosen_schedule ranges (Some numbers) = result_map_both (λ schedule. schedule) told_of_list (schedule_of ranges numbers)

-- the order of ties that a list gives, where time goes so: in whole ticks none may be given
abbrev pub order_in : Time → Scenario → List ℤ → Result Order Fault
order_in Ticks scenario numbers = Err (faults.Order InTicks)
order_in Real scenario numbers = result_map_both (λ order. order) told_of_order (order_given scenario numbers)

-- the order of ties that is given, or where none is the fixed one
abbrev pub chosen_order : Scenario → Option (List ℤ) → Result Order Fault
chosen_order scenario None = Ok no_order
chosen_order scenario (Some numbers) = order_in scenario.time scenario numbers

-- the schedule in that order of ties, for the scenario
abbrev pub scheduled_with : Scenario → Schedule → Order → Scheduled
scheduled_with scenario schedule order = record { scenario = scenario; schedule = record schedule { order = order } }

-- those of what was read: faults of the delays come before those of the order
abbrev pub scheduled_by : InputView → Result Scheduled Fault
scheduled_by given = do
  schedule ← chosen_schedule (ranges_of given.scenario) given.schedule
  order ← chosen_order given.scenario given.order
  Ok (scheduled_with given.scenario schedule order)

-- those of what was read: the scenario's faults come before all others
abbrev pub scheduled_of_input : Result InputView ScenarioFault → Result Scheduled Fault
scheduled_of_input (Err fault) = Err (told_of fault)
scheduled_of_input (Ok given) = scheduled_by given

-- those of a scenario's text
abbrev pub scheduled_of_text : List ℕ → Result Scheduled Fault
scheduled_of_text text = scheduled_of_input (input_of_text text)

-- those of a certificate
abbrev pub scheduled_in : Certificate → Scheduled
scheduled_in certificate = record { scenario = certificate.scenario; schedule = certificate.schedule }
