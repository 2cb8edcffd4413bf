-- What `scenario` writes where something is asked beside the text.
use Rattle.std.specs.Prelude.{◌≡◌, ℕ, List, Ok, Err}
use Rattle.convoy_scenario.specs.Scenario.{Scenario}
use Rattle.convoy_toml.specs.declared.asked.Asked.{Asked}
use Rattle.convoy_toml.specs.Reading.{scenario_of_text_by}
use Rattle.convoy_toml_writer.specs.Text.{toml_text}
use Rattle.convoy_commands.specs.declared.done.Done.{Done}
use Rattle.convoy_commands.specs.declared.done.Done.TheVariants.{Fine}
use Rattle.convoy_commands.specs.First.{least_schedule}
use Rattle.convoy_commands.specs.Replies.{Rule}
use Rattle.convoy_commands.specs.Searches.{IsFaultyBy}

-- What is written is the text of the scenario that is asked about, with the schedule of its least delays, and it ends well.
pub record IsScenarioText (asked : Asked) (text : List ℕ) (end : Done) (out : List ℕ) : Type 0 where
  pub scenario : Scenario
  pub read : scenario_of_text_by asked text ≡ Ok scenario
  pub written : out ≡ toml_text scenario (least_schedule scenario)
  pub ends : end ≡ Fine

-- what may be answered for a text
abbrev pub ScenarioTextSays : Asked → Rule
ScenarioTextSays asked text (Ok (end, out)) = IsScenarioText asked text end out
ScenarioTextSays asked text (Err fault) = IsFaultyBy asked text fault
