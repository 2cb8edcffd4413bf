-- The scenario of a TOML table, and of a text, with the schedule and the order of its ties that are given beside it.
use Rattle.std.specs.Prelude.{ℕ, ℤ, Bool, false, if◌then◌else◌, List, [], Option, None, option_and_then, option_map, unwrap_or, is_some, ok_or, Result, Ok, Err}
use Rattle.std.specs.Option.{option_map_or}
use Rattle.std.specs.Result.{result_map_both, result_ok}
use Rattle.std.specs.Str.{is_utf8}
use Rattle.toml.specs.Data.{Members}
use Rattle.toml.specs.Parse.{parse_document}
use Rattle.convoy_draft.specs.declared.fault.ScenarioFault.{ScenarioFault}
use Rattle.convoy_toml.specs.declared.asked.Asked.{Asked}
use Rattle.convoy_toml.specs.declared.input.Input.{Input}
use Rattle.convoy_toml.specs.declared.target.TargetKey.TheVariants.{Required, Optional}
use Rattle.convoy_draft.specs.declared.fault.ScenarioFault.TheVariants.{NotToml, NoRange}
use Rattle.convoy_draft.specs.Draft.{Draft}
use Rattle.convoy_draft.specs.declared.duration.TimeUnit.{TimeUnit}
use Rattle.convoy_scenario.specs.Scenario.{Scenario}
use Rattle.convoy_scenario.specs.Numbering.{scenario_of_draft}
use Rattle.convoy_lines.specs.Results.{◌>>=◌}
use Rattle.convoy_toml.specs.Around.{asked_around}
use Rattle.convoy_toml.specs.Deadlines.{deadlines_of_written}
use Rattle.convoy_toml.specs.Outside.{LinkShare, shares_of_table}
use Rattle.convoy_toml.specs.Shape.{Written, WrittenAcceptance, WrittenScenario, acceptances_of_table, accepts_by_table, outage_of_table, time_of_table, unit_of_table}
use Rattle.convoy_toml.specs.Slow.{written_of_table}
use Rattle.convoy_toml.specs.declared.written.WrittenTime.{WrittenTime}
use Rattle.convoy_toml.specs.Times.{draft_of_written}
use Rattle.convoy_toml.specs.Ways.{has_ranges}

-- what a text gives: a scenario, and the delays of one run and the ranks of its moments where they stand beside it
pub record InputView : Type 0 where
  pub scenario : Scenario
  pub schedule : Option (List ℤ)
  pub order : Option (List ℤ)

-- the table of a text in UTF-8 that is TOML
abbrev pub table_of_text : List ℕ → Result Members ScenarioFault
table_of_text text = if is_utf8 text then ok_or (parse_document text) NotToml else Err NotToml

-- in real time a packet that travels has a range that is written
abbrev pub need_ranges : Bool → Draft → Result (Unit {0}) ScenarioFault
need_ranges has_least draft = if has_ranges has_least draft then Ok tt else Err NoRange

-- ask nothing beside the text: it has to name its target, and one sender of each message, and no group is replicated by white box
abbrev pub as_written : Asked
as_written = record { target = Required; at_most = None; around = None; case = None; accept = false }

-- the same, but it may leave out its target
abbrev pub of_any_target : Asked
of_any_target = record { target = Optional; at_most = None; around = None; case = None; accept = false }

-- the scenario of what is written: its times in ticks first, then the checks of the scenario, and then whether ranges are written
abbrev pub scenario_of_written : WrittenScenario → Result Scenario ScenarioFault
scenario_of_written written = do
  draft ← draft_of_written written
  scenario ← scenario_of_draft draft
  _ ← need_ranges (is_some written.least) draft
  Ok scenario

-- what is given where this is written: the scenario first, and then the deadlines, and where all is asked around the target the scenario around it; schedule and order stay as they are written
abbrev pub input_of_written : Asked → Written → Result InputView ScenarioFault
input_of_written asked written = do
  scenario ← scenario_of_written written.scenario
  _ ← deadlines_of_written asked.at_most written.scenario
  about ← asked_around asked.around scenario
  Ok (record { scenario = about; schedule = written.schedule; order = written.order })

-- what a table gives, where that is asked: its shape first, then what is said of that
abbrev pub input_of_table : Asked → Members → Result InputView ScenarioFault
input_of_table asked table = written_of_table asked table >>= input_of_written asked

-- what a text gives, where that is asked
abbrev pub input_of_text_by : Asked → List ℕ → Result InputView ScenarioFault
input_of_text_by asked text = table_of_text text >>= input_of_table asked

-- what a text gives
abbrev pub input_of_text : List ℕ → Result InputView ScenarioFault
input_of_text text = input_of_text_by as_written text

-- the scenario alone
abbrev pub scenario_of_input : Result InputView ScenarioFault → Result Scenario ScenarioFault
scenario_of_input given = result_map_both (λ g. g.scenario) (λ fault. fault) given

-- the scenario of a text, where that is asked
abbrev pub scenario_of_text_by : Asked → List ℕ → Result Scenario ScenarioFault
scenario_of_text_by asked text = scenario_of_input (input_of_text_by asked text)

-- the scenario of a text
abbrev pub scenario_of_text : List ℕ → Result Scenario ScenarioFault
scenario_of_text text = scenario_of_text_by as_written text

-- the deadlines of the messages of a text, where that is asked, in ticks, by the numbers of the messages; none where the text is at fault
abbrev pub deadlines_of_text : Asked → List ℕ → List (Option ℕ)
deadlines_of_text asked text = of_reading (table_of_text text >>= of_table) where
  of_table : Members → Result (List (Option ℕ)) ScenarioFault
  of_table table = written_of_table asked table >>= λ written. deadlines_of_written asked.at_most written.scenario

  of_reading : Result (List (Option ℕ)) ScenarioFault → List (Option ℕ)
  of_reading (Ok deadlines) = deadlines
  of_reading (Err fault) = []

-- the shares of packets outside their ranges that the links of a text write; none where it is no table
abbrev pub shares_of_text : List ℕ → List LinkShare
shares_of_text text = of_reading (table_of_text text) where
  of_reading : Result Members ScenarioFault → List LinkShare
  of_reading (Ok table) = shares_of_table table
  of_reading (Err fault) = []

-- how long the outages last in all through which latencies of a table are told as well, as it is written; none where the key is absent or at fault
abbrev pub outage_in : Members → Option WrittenTime
outage_in table = unwrap_or (result_ok (time_of_table table >>= λ time. outage_of_table time table)) None

-- the same of a text; none where that is no table
abbrev pub outage_of_text : List ℕ → Option WrittenTime
outage_of_text text = option_and_then outage_in (result_ok (table_of_text text))

-- the groups that are replicated by white box, where the tables of groups of a text say so; none where it is no table
abbrev pub acceptances_of_text : List ℕ → List WrittenAcceptance
acceptances_of_text text = option_map_or acceptances_of_table (result_ok (table_of_text text)) []

-- some table of groups of a text says that they are replicated by white box
abbrev pub accepts_by_text : List ℕ → Bool
accepts_by_text text = option_map_or accepts_by_table (result_ok (table_of_text text)) false

-- what was read, with schedule and order as lists
abbrev pub input_read : Result Input ScenarioFault → Result InputView ScenarioFault
input_read (Ok input) = Ok (record { scenario = input.scenario; schedule = option_map (λ delays. delays.items) input.schedule; order = option_map (λ ranks. ranks.items) input.order })
input_read (Err fault) = Err fault

-- what was read, without what stands beside the scenario
abbrev pub scenario_read : Result Input ScenarioFault → Result Scenario ScenarioFault
scenario_read (Ok input) = Ok input.scenario
scenario_read (Err fault) = Err fault

-- the unit in which a text writes D, where it writes that as a duration
abbrev pub unit_written : List ℕ → Option TimeUnit
unit_written text = of_reading (table_of_text text) where
  of_reading : Result Members ScenarioFault → Option TimeUnit
  of_reading (Ok table) = unit_of_table table
  of_reading (Err fault) = None
