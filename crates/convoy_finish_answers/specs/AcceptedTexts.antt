-- Scenarios of texts whose groups are replicated by white box.
use Rattle.std.specs.Prelude.{◌≡◌, ◌⊎◌, ℕ, true, List, None, Option, Result, Ok, Err}
use Rattle.convoy_scenario.specs.Scenario.{Scenario}
use Rattle.convoy_scenario.specs.WellFormed.{IsScenario}
use Rattle.convoy_toml.specs.declared.asked.Asked.{Asked}
use Rattle.convoy_toml.specs.declared.written.WrittenTime.{WrittenTime}
use Rattle.convoy_toml.specs.Reading.{acceptances_of_text, deadlines_of_text, scenario_of_text_by, unit_written}
use Rattle.convoy_replicas.specs.declared.replicas.ReplicaFault.{ReplicaFault}
use Rattle.convoy_replicas.specs.Replicas.{replicas_of}
use Rattle.convoy_finishes.specs.WhiteBox.{white_box_ways}
use Rattle.convoy_commands.specs.declared.fault.Fault.{Fault}
use Rattle.convoy_commands.specs.declared.fault.Fault.TheVariants as faults
use Rattle.convoy_commands.specs.Searches.{IsFaultyBy}
use Rattle.convoy_finish_answers.specs.declared.accepted.Accepted.{Accepted}

-- the same, where groups may be replicated by white box
abbrev pub accepting : Asked → Asked
accepting asked = record asked { accept = true }

-- The text is that of this scenario, where that is asked, and its messages are finished by these ways, where replicas are as far from their leaders as the text says.
pub record AreWaysOf (asked : Asked) (text : List ℕ) (scenario : Scenario) (ways : List ℕ) : Type 0 where
  pub replicas : List ℕ
  pub read : scenario_of_text_by (accepting asked) text ≡ Ok scenario
  pub spanning : replicas_of None (acceptances_of_text text) scenario ≡ Ok replicas
  pub are : ways ≡ white_box_ways scenario replicas

-- That is what was read.
pub record IsAccepted (asked : Asked) (text : List ℕ) (accepted : Accepted) : Type 0 where
  pub ways : AreWaysOf asked text accepted.scenario accepted.ways
  pub lawful : IsScenario accepted.scenario
  pub deadlines : accepted.deadlines.items ≡ deadlines_of_text (accepting asked) text
  pub unit : accepted.unit ≡ unit_written text

-- The scenario was read, and it can't be told how many of its ticks replicas are from their leaders.
pub record AreReplicasRefused (span : Option WrittenTime) (asked : Asked) (text : List ℕ) (fault : Fault) : Type 0 where
  pub scenario : Scenario
  pub read : scenario_of_text_by asked text ≡ Ok scenario
  pub cause : ReplicaFault
  pub refused : replicas_of span (acceptances_of_text text) scenario ≡ Err cause
  pub told : fault ≡ faults.Replicas cause

-- why nothing was read
abbrev pub IsNotAccepted : Asked → List ℕ → Fault → Type 0
IsNotAccepted asked text fault = IsFaultyBy (accepting asked) text fault ⊎ AreReplicasRefused None (accepting asked) text fault

-- what was read, or why nothing was
abbrev pub GivesAccepted : Asked → List ℕ → Result Accepted Fault → Type 0
GivesAccepted asked text (Ok accepted) = IsAccepted asked text accepted
GivesAccepted asked text (Err fault) = IsNotAccepted asked text fault ⊎ (fault ≡ faults.Memory)
