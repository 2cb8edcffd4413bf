-- In which unit the times of a scenario are told.
use Rattle.std.specs.Prelude.{ℕ, List, Option, None}
use Rattle.convoy_draft.specs.declared.duration.TimeUnit.{TimeUnit}
use Rattle.convoy_scenario.specs.Scenario.{Scenario}
use Rattle.convoy_toml.specs.Reading.{unit_written}
use Rattle.convoy_times.specs.Measures.{measure_by}
use Rattle.convoy_times.specs.declared.measure.Measure.{Measure}

-- of the scenario of a text: in the unit that is asked for, or else in that in which the text writes D
abbrev pub measure_of_text : Option TimeUnit → List ℕ → Scenario → Option Measure
measure_of_text asked text scenario = measure_by asked (unit_written text) scenario

-- of the scenario of a certificate, which writes no durations
abbrev pub measure_of : Option TimeUnit → Scenario → Option Measure
measure_of asked scenario = measure_by asked None scenario
