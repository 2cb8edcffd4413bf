-- The points of a sweep: what each of its keys is given in a row, and the scenario that the text makes then.
use Rattle.std.specs.Prelude.{Vec, ℕ, ◌*◌, nat_le, Bool, not, List, [], ◌∷◌, map, flat_map, Option, Some, None, Result, Ok, Err}
use Rattle.std.specs.Result.{result_map_both}
use Rattle.std.specs.declared.alloc.Global.{Global}
use Rattle.convoy_lines.specs.Results.{◌>>=◌}
use Rattle.convoy_draft.specs.declared.fault.ScenarioFault.{ScenarioFault}
use Rattle.convoy_draft.specs.declared.fault.ScenarioFault.TheVariants.{Memory}
use Rattle.convoy_scenario.specs.Scenario.{Scenario}
use Rattle.convoy_toml.specs.declared.around.Around.{Around}
use Rattle.convoy_toml.specs.declared.asked.Asked.{Asked}
use Rattle.convoy_toml.specs.Around.{asked_around}
use Rattle.convoy_toml.specs.Reading.{scenario_of_text_by, scenario_of_written, table_of_text}
use Rattle.convoy_toml.specs.Shape.{WrittenScenario}
use Rattle.convoy_toml.specs.Slow.{written_of_table}
use Rattle.convoy_toml.specs.Times.{tick_of}
use Rattle.convoy_sweep.specs.declared.fault.SettingFault.{SettingFault}
use Rattle.convoy_sweep.specs.declared.fault.SweepFault.{SweepFault}
use Rattle.convoy_sweep.specs.declared.fault.SweepFault.TheVariants.{Text, First, Second, SameKey, TooManyRows, Value}
use Rattle.convoy_sweep.specs.declared.kinds.Given.{Given}
use Rattle.convoy_sweep.specs.declared.kinds.Point.{Point}
use Rattle.convoy_sweep.specs.declared.kinds.Ranges.{Ranges}
use Rattle.convoy_sweep.specs.declared.kinds.Setting.{Setting}
use Rattle.convoy_sweep.specs.declared.kinds.Sweep.{Sweep}
use Rattle.convoy_sweep.specs.declared.kinds.ValueRange.{ValueRange}
use Rattle.convoy_sweep.specs.declared.kinds.TheConstants.{MOST_ROWS}
use Rattle.convoy_sweep.specs.declared.preparing.Made.{Made}
use Rattle.convoy_sweep.specs.declared.preparing.Prepared.{Prepared as WithInput}
use Rattle.convoy_sweep.specs.Keys.{is_same_key, with_key}
use Rattle.convoy_sweep.specs.Values.{given_count, givens, need, range_in}

-- POINTS
-- the fault of one of the settings
abbrev pub of_setting : {A : Type 0} → (SettingFault → SweepFault) → Result A SettingFault → Result A SweepFault
of_setting which result = result_map_both (λ value. value) which result

-- the values of a second setting beside those of the first: of another key, and with not too many points
abbrev pub second_range : WrittenScenario → Option ℕ → Bool → Sweep → ValueRange → Setting → Result ValueRange SweepFault
second_range written tick envelope sweep outer second = do
  inner ← of_setting Second (range_in written tick envelope second)
  _ ← need (not (is_same_key written sweep.first.key second.key)) SameKey
  _ ← need (nat_le (given_count envelope outer * given_count envelope inner) MOST_ROWS) TooManyRows
  Ok inner

-- the same, if there is one
abbrev pub inner_range : WrittenScenario → Option ℕ → Bool → Sweep → ValueRange → Option Setting → Result (Option ValueRange) SweepFault
inner_range written tick envelope sweep outer None = Ok None
inner_range written tick envelope sweep outer (Some second) =
    second_range written tick envelope sweep outer second >>= λ inner. Ok (Some inner)

-- the values of both settings
abbrev pub ranges_in : WrittenScenario → Option ℕ → Bool → Sweep → Result Ranges SweepFault
ranges_in written tick envelope sweep = do
  outer ← of_setting First (range_in written tick envelope sweep.first)
  inner ← inner_range written tick envelope sweep outer sweep.second
  Ok (record { outer = outer; inner = inner })

-- what one key is given
abbrev pub single : Given → Point
single given = record { first = given; second = None }

-- what the first key is given, with each that the second is given
abbrev pub points_at : List Given → Given → List Point
points_at inner given = map (λ other. record { first = given; second = Some other }) inner

-- the points of one key, or of two, the first outermost
abbrev pub points_of : Bool → Ranges → List Point
points_of envelope ranges = by_inner ranges.inner where
  by_inner : Option ValueRange → List Point
  by_inner None = map single (givens envelope ranges.outer)
  by_inner (Some inner) = flat_map (points_at (givens envelope inner)) (givens envelope ranges.outer)

-- SCENARIOS
-- what is written, with this length of a tick whatever its times are
abbrev pub held : Option ℕ → WrittenScenario → WrittenScenario
held tick written = record written { tick = tick }

-- what is written where a second key, if there is one, has its value
abbrev pub with_second : Option Setting → Option Given → WrittenScenario → WrittenScenario
with_second None given written = written
with_second (Some setting) None written = written
with_second (Some setting) (Some given) written = with_key setting.key given written

-- what is written at a point
abbrev pub written_at : Sweep → Point → WrittenScenario → WrittenScenario
written_at sweep point written = with_second sweep.second point.second (with_key sweep.first.key point.first written)

-- the scenario at a point of a text that is written so: that of what is written there, or where all is asked around the target the scenario around that
abbrev pub scenario_at : Option Around → Sweep → WrittenScenario → Point → Result Scenario ScenarioFault
scenario_at around sweep written point = scenario_of_written (written_at sweep point written) >>= asked_around around

-- the fault of a point, at which what is written makes no scenario
abbrev pub told_at : Point → ScenarioFault → SweepFault
told_at point Memory = Text Memory
told_at point cause = Value point cause

-- a point with the scenario there, or the fault of the point
abbrev pub made_at : Option Around → Sweep → WrittenScenario → Point → Result Made SweepFault
made_at around sweep written point =
    result_map_both (λ scenario. record { point = point; scenario = scenario }) (told_at point) (scenario_at around sweep written point)

-- the points with their scenarios, or the fault of the first that makes none
abbrev pub all_made : Option Around → Sweep → WrittenScenario → List Point → Result (List Made) SweepFault
all_made around sweep written [] = Ok []
all_made around sweep written (point ∷ points) = do
  first ← made_at around sweep written point
  others ← all_made around sweep written points
  Ok (first ∷ others)

-- the points of a sweep of the text that is written so, with this length of a tick, and their scenarios
abbrev pub made_in : Option Around → Sweep → Bool → WrittenScenario → Option ℕ → Result (List Made) SweepFault
made_in around sweep envelope written tick =
    ranges_in written tick envelope sweep >>= λ ranges. all_made around sweep (held tick written) (points_of envelope ranges)

-- TEXTS
-- what a text writes of a scenario, where that is asked
abbrev pub written_of_text : Asked → List ℕ → Result WrittenScenario ScenarioFault
written_of_text asked text = do
  table ← table_of_text text
  written ← written_of_table asked table
  Ok written.scenario

-- a fault of the text is one of the sweep
abbrev pub in_text : {A : Type 0} → Result A ScenarioFault → Result A SweepFault
in_text result = result_map_both (λ value. value) Text result

-- how a call's answer is seen: a vector as the list that it holds
abbrev pub listed : {A E : Type 0} → Result (Vec A Global) E → Result (List A) E
listed (Ok xs) = Ok xs.items
listed (Err fault) = Err fault

-- what is known of a text before anything is searched: its own scenario, and the points of the sweep with theirs
pub record Prepared : Type 0 where
  pub scenario : Scenario
  pub made : List Made

-- the same, or the first fault
abbrev pub prepared_of : Sweep → Bool → Asked → List ℕ → Result Prepared SweepFault
prepared_of sweep envelope asked text = do
  written ← in_text (written_of_text asked text)
  scenario ← in_text (scenario_of_text_by asked text)
  tick ← in_text (tick_of written)
  made ← made_in asked.around sweep envelope written tick
  Ok (record { scenario = scenario; made = made })

-- what was prepared, without what the text holds beside its scenario
abbrev pub seen : WithInput → Prepared
seen prepared = record { scenario = prepared.input.scenario; made = prepared.made.items }
