-- What is proved of scenario texts that are written and read. Each is the one clause of the function of its name in the crate's module `written_text_laws`.
use Rattle.std.specs.Prelude.{◌≡◌, ℤ, pos, if◌then◌else◌, List, map, Option, Some, None, Ok}
use Rattle.std.specs.Option.{MatchOption}
use Rattle.convoy_draft.specs.declared.time.Time.TheVariants.{Real}
use Rattle.convoy_scenario.specs.Scenario.{Scenario}
use Rattle.convoy_scenario.specs.WellFormed.{IsScenario}
use Rattle.convoy_packets.specs.Assignment.{Schedule, IsAssignment, in_fixed_order, ranges_of}
use Rattle.convoy_packets.specs.Given.{schedule_of}
use Rattle.convoy_packets.specs.Order.{Order, no_order}
use Rattle.convoy_packets.specs.OrderLists.{is_no_order, order_given, ranks_of}
use Rattle.convoy_toml.specs.Reading.{InputView, input_of_text}
use Rattle.convoy_toml_writer.specs.Text.{toml_text}

-- the ranks of an order of ties, as they are given; none are given of the fixed order
abbrev pub ranks_for : Scenario → Order → Option (List ℤ)
ranks_for scenario order = if is_no_order order then None else Some (map pos (ranks_of scenario order))

-- a scenario with the delays and the ranks of a schedule
abbrev pub input_for : Scenario → Schedule → InputView
input_for scenario schedule = record {
  scenario = scenario;
  schedule = Some (map pos schedule.delays);
  order = ranks_for scenario schedule.order;
}

-- what is written of a scenario with a schedule is read as both
abbrev pub TextsAreRead : Type 0
TextsAreRead =
    (scenario : Scenario) (schedule : Schedule) → IsScenario scenario → IsAssignment scenario schedule → input_of_text (toml_text scenario schedule) ≡ Ok (input_for scenario schedule)

-- What was read gives the schedule: its delays are the list that is there, and its order of ties is that of the ranks, which only real time has, or the fixed one where there are none.
pub record GivesSchedule (input : InputView) (schedule : Schedule) : Type 0 where
  pub numbers : List ℤ
  pub there : input.schedule ≡ Some numbers
  pub delays : schedule_of (ranges_of input.scenario) numbers ≡ Ok (in_fixed_order schedule.delays)
  pub order : MatchOption input.order (schedule.order ≡ no_order) (λ ranks. (input.scenario.time ≡ Real) × (order_given input.scenario ranks ≡ Ok schedule.order))

-- what is read of the text gives the schedule again
abbrev pub SchedulesAreGiven : Type 0
SchedulesAreGiven = (scenario : Scenario) (schedule : Schedule) → IsScenario scenario → IsAssignment scenario schedule → GivesSchedule (input_for scenario schedule) schedule
