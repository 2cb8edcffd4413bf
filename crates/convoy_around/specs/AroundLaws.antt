-- What is proved of scenarios around their targets. Each is the one clause of the function of its name in the crate's module `around_laws`.
use Rattle.std.specs.Prelude.{◌≡◌, ℕ, ◌<◌, length, IsTrue}
use Rattle.convoy_around.specs.Around.{around_at, is_span}
use Rattle.convoy_scenario.specs.Scenario.{GoesTo, Scenario}
use Rattle.convoy_scenario.specs.WellFormed.{IsScenario}

-- around each message and each group that it goes to there is a well-formed scenario, whether or not the message has room as the target of the scenario itself
abbrev pub AroundIsScenario : Type 0
AroundIsScenario =
    (span : ℕ) (scenario : Scenario) (m g : ℕ) → IsScenario scenario → IsTrue (is_span span) → m < length scenario.multicasts → GoesTo scenario m g →
    IsScenario (around_at span scenario m g)

-- a scenario around one target is, around another one, what the scenario itself is around that: of when its messages were issued nothing is left
abbrev pub AroundForgetsTargets : Type 0
AroundForgetsTargets =
    (span other : ℕ) (scenario : Scenario) (m g n h : ℕ) →
    around_at span (around_at other scenario m g) n h ≡ around_at span scenario n h
