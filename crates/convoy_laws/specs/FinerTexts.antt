-- One scenario as two texts, of which the one counts in finer ticks than the other.
use Rattle.std.specs.Prelude.{◌≡◌, ℕ, ◌*◌, ◌≤◌, List, Some, Result, Ok, IsTrue}
use Rattle.std.specs.List.{list_all}
use Rattle.convoy_lines.specs.Results.{◌>>=◌}
use Rattle.convoy_draft.specs.declared.fault.ScenarioFault.{ScenarioFault}
use Rattle.convoy_draft.specs.declared.time.Time.TheVariants.{Real}
use Rattle.convoy_scenario.specs.Scenario.{Scenario}
use Rattle.convoy_toml.specs.Reading.{as_written, scenario_of_text, table_of_text}
use Rattle.convoy_toml.specs.Shape.{Written}
use Rattle.convoy_toml.specs.Slow.{written_of_table}
use Rattle.convoy_toml.specs.Times.{is_lasting, tick_of, times_of}
use Rattle.convoy_sim.specs.Greatest.{IsGreatest}

-- what is written in a text
abbrev pub written_of_text : List ℕ → Result Written ScenarioFault
written_of_text text = table_of_text text >>= written_of_table as_written

-- two texts that say the same scenario, all its times as durations, the second in ticks so many times as fine as those of the first
pub record SayTheSame (times : ℕ) (text finer_text : List ℕ) : Type 0 where
  pub some : 1 ≤ times
  pub tick : ℕ
  pub written : Written
  pub finer_written : Written
  pub is_written : written_of_text text ≡ Ok written
  pub finer_is_written : written_of_text finer_text ≡ Ok finer_written
  pub same : finer_written.scenario ≡ record written.scenario { tick = finer_written.scenario.tick }
  pub lasting : IsTrue (list_all is_lasting (times_of written.scenario))
  pub counts : tick_of written.scenario ≡ Ok (Some (times * tick))
  pub finer_counts : tick_of finer_written.scenario ≡ Ok (Some tick)

-- two scenarios have the same greatest latency in time: in ticks that are so many times as fine it is so many times the number
pub record HaveSameGreatest (times : ℕ) (scenario finer : Scenario) : Type 0 where
  pub in_finer : (latency : ℕ) → IsGreatest scenario latency → IsGreatest finer (times * latency)
  pub in_whole : (greatest : ℕ) → IsGreatest finer greatest → (latency : ℕ) × (greatest ≡ times * latency) × IsGreatest scenario latency

-- In real time the greatest latency of what a text says does not depend on the tick that the text counts in.
abbrev pub GreatestOfFinerTexts : Type 0
GreatestOfFinerTexts =
    (times : ℕ) (text finer_text : List ℕ) (scenario finer : Scenario) → SayTheSame times text finer_text → scenario_of_text text ≡ Ok scenario → scenario_of_text finer_text ≡ Ok finer → scenario.time ≡ Real
    → HaveSameGreatest times scenario finer
