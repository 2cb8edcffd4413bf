-- What no order of the groups can better.
use Rattle.std.specs.Prelude.{ℕ, ◌<◌, List, length, Contains}
use Rattle.convoy_scenario.specs.Scenario.{Scenario, GoesTo}
use Rattle.convoy_scenario.specs.WellFormed.{IsScenario}
use Rattle.convoy_orders.specs.GreatestAt.{IsLate}
use Rattle.convoy_orders.specs.Renumbered.{IsRenumbered}

-- message m is so late at group g in some order of the groups in which all destinations of m that stand behind g are among these groups
pub record IsHeldUp (scenario : Scenario) (groups : List ℕ) (m g latency : ℕ) : Type 0 where
  pub renumber : ℕ → ℕ
  pub back : ℕ → ℕ
  pub listed : Scenario
  pub well : IsScenario listed
  pub is : IsRenumbered renumber back scenario listed
  pub goes : GoesTo scenario m g
  pub behind : (h : ℕ) → GoesTo scenario m h → renumber g < renumber h → Contains groups h
  pub run : IsLate listed m (renumber g) latency

-- Where each of some groups has a message that is so late there in some order, with none of the message's destinations but some of these groups behind it, one of these messages is so late at its group in every order.
abbrev pub NoOrderIsBelow : Type 0
NoOrderIsBelow =
    (renumber back : ℕ → ℕ) (scenario other : Scenario) (groups : List ℕ) (message latency : ℕ → ℕ)
    → IsScenario scenario → IsScenario other → IsRenumbered renumber back scenario other → 0 < length groups
    → ((g : ℕ) → Contains groups g → IsHeldUp scenario groups (message g) g (latency g))
    → (g : ℕ) × Contains groups g × IsLate other (message g) (renumber g) (latency g)
