-- What is proved of the lines of scenarios. Each is the one clause of the function of its name in the crate's module `scenario_line_laws`.
use Rattle.std.specs.Prelude.{◌≡◌, ◌+◌, ◌↔◌, false, List, [], ◌++◌, length, Ok, All}
use Rattle.convoy_lines.specs.LineLaws.{IsLine}
use Rattle.convoy_lines.specs.Places.{Place}
use Rattle.convoy_scenario.specs.Scenario.{Link, Scenario, is_timed}
use Rattle.convoy_scenario.specs.WellFormed.{IsScenario}
use Rattle.convoy_scenario_lines.specs.declared.version.Version.{Version}
use Rattle.convoy_scenario_lines.specs.declared.version.Version.TheVariants.{One, Two, Three}
use Rattle.convoy_scenario_lines.specs.LineReading.{scenario_at}
use Rattle.convoy_scenario_lines.specs.ScenarioLines.{scenario_lines}

-- the lines of a well-formed scenario are lines
abbrev pub ScenarioLinesAreLines : Type 0
ScenarioLinesAreLines =
    (version : Version) (scenario : Scenario) → IsScenario scenario → All IsLine (scenario_lines version scenario)

-- the lines of a scenario, as that version has them, stand between two places
pub record IsBetween (version : Version) (scenario : Scenario) (place past : Place) : Type 0 where
  pub ended : place.ended ≡ scenario_lines version scenario ++ past.ended
  pub rest : place.rest ≡ past.rest
  pub number : place.number + length (scenario_lines version scenario) ≡ past.number

-- the lines of that version can say how time goes, who waits, whose own stamps take time, and at which places clients are: those of versions 1 and 2 are of whole ticks in which no message may wait, no group's own stamps take time, and no place has a name
abbrev pub CanSayTime : Version → Scenario → Type 0
CanSayTime One scenario = is_timed scenario ≡ false
CanSayTime Two scenario = is_timed scenario ≡ false
CanSayTime Three scenario = Unit {0}

-- the lines of that version can say the links: those of version 1 say none
abbrev pub CanSayLinks : Version → List Link → Type 0
CanSayLinks One links = links ≡ []
CanSayLinks Two links = Unit {0}
CanSayLinks Three links = Unit {0}

-- the lines of that version can say the scenario: how time goes in it, who waits, whose own stamps take time and where clients are, and its links
pub record CanSay (version : Version) (scenario : Scenario) : Type 0 where
  pub time : CanSayTime version scenario
  pub links : CanSayLinks version scenario.links

-- a scenario is read at a place, up to another, just where it is well formed, that version can say it, and its lines stand between the places
abbrev pub ScenariosAreTheirLines : Type 0
ScenariosAreTheirLines =
    (version : Version) (scenario : Scenario) (place past : Place)
    → (scenario_at version place ≡ Ok (scenario, past)) ↔ (IsScenario scenario × CanSay version scenario × IsBetween version scenario place past)
