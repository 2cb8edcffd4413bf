-- What is proved of room and of widened scenarios. Each is the one clause of the function of its name in the crate's module `widened_laws`.
use Rattle.std.specs.Prelude.{◌≡◌, ◌↔◌, ◌<◌, ℕ, length, IsTrue}
use Rattle.convoy_scenario.specs.Room.{HasRoom, has_room}
use Rattle.convoy_scenario.specs.Scenario.{Scenario, message_at}
use Rattle.convoy_scenario.specs.Targets.{with_target}
use Rattle.convoy_scenario.specs.WellFormed.{IsScenario}
use Rattle.convoy_scenario.specs.Widened.{target_wait, widened}

-- the test answers yes just where the target has room
abbrev pub RoomIsDecided : Type 0
RoomIsDecided = (scenario : Scenario) → IsTrue (has_room scenario) ↔ HasRoom scenario

-- a message that does not wait has room as the target
abbrev pub StillTargetsHaveRoom : Type 0
StillTargetsHaveRoom =
    (scenario : Scenario) (m g : ℕ) → IsScenario scenario → m < length scenario.multicasts → (message_at scenario m).longest_wait ≡ 0 → HasRoom (with_target scenario m g)

-- the widened scenario of a well-formed one is well formed
abbrev pub WidenedIsScenario : Type 0
WidenedIsScenario = (scenario : Scenario) → IsScenario scenario → IsScenario (widened scenario)

-- a scenario whose target does not wait is its own widened scenario
abbrev pub WidenedIsItself : Type 0
WidenedIsItself = (scenario : Scenario) → target_wait scenario ≡ 0 → widened scenario ≡ scenario
