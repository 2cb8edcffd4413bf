-- What is proved of finishes. Each is the one clause of the function of its name in the crate's module `finish_laws`.
use Rattle.std.specs.Prelude.{◌≡◌, ◌↔◌, ℕ, ◌*◌, ◌≤◌, List, IsTrue}
use Rattle.convoy_draft.specs.declared.time.Time.TheVariants.{Real}
use Rattle.convoy_scenario.specs.Scenario.{Scenario}
use Rattle.convoy_scenario.specs.WellFormed.{IsScenario}
use Rattle.convoy_scenario.specs.Widened.{widened}
use Rattle.convoy_packets.specs.Assignment.{Schedule, IsAssignment}
use Rattle.convoy_sure.specs.Windows.{EnclosesAll, Windows, tables_by}
use Rattle.convoy_origin.specs.Widened.{HasTarget, widened_schedule}
use Rattle.convoy_laws.specs.FinerTicks.{IsFiner}
use Rattle.convoy_finishes.specs.Finishes.{IsGreatestFinish, IsReachedUnder, IsUpperOfFinishes, IsUpperUnder, finish_latency, way_at}
use Rattle.convoy_finishes.specs.FinishClosing.{closes_finishing, closes_finishing_over, plain_finish_bound}

-- Under a schedule the target may be delivered after the finish latency, where all is finished at its last tick, and it never is later.
abbrev pub LatestFinishes : Type 0
LatestFinishes =
    (scenario : Scenario) (schedule : Schedule) (ways : List ℕ) → IsScenario scenario
    → IsReachedUnder scenario schedule ways (finish_latency scenario ways schedule)
    × IsUpperUnder scenario schedule ways (finish_latency scenario ways schedule)

-- So a number that no finish latency exceeds is one that no delivery does, and the other way round.
abbrev pub UpperOfFinishLatencies : Type 0
UpperOfFinishLatencies =
    (scenario : Scenario) (ways : List ℕ) (latency : ℕ) → IsScenario scenario
    → IsUpperOfFinishes scenario ways latency
    ↔ ((schedule : Schedule) → IsAssignment scenario schedule → finish_latency scenario ways schedule ≤ latency)

-- And where an assignment has such a number as its finish latency, it is the greatest.
abbrev pub MetUpperIsGreatest : Type 0
MetUpperIsGreatest =
    (scenario : Scenario) (schedule : Schedule) (ways : List ℕ) (latency : ℕ)
    → IsScenario scenario
    → IsAssignment scenario schedule
    → finish_latency scenario ways schedule ≡ latency
    → IsUpperOfFinishes scenario ways latency
    → IsGreatestFinish scenario ways latency

-- Where windows enclose an assignment and are closed for a latency, it has no greater finish latency.
abbrev pub ClosedFinishingOverWindows : Type 0
ClosedFinishingOverWindows =
    (scenario : Scenario) (schedule : Schedule) (windows : Windows) (ways : List ℕ) (latency : ℕ)
    → IsScenario scenario
    → IsAssignment scenario schedule
    → EnclosesAll scenario schedule (tables_by windows)
    → IsTrue (closes_finishing_over scenario windows ways latency)
    → finish_latency scenario ways schedule ≤ latency

-- Each assignment has the finish latency that it has in the widened scenario.
abbrev pub FinishesWiden : Type 0
FinishesWiden =
    (scenario : Scenario) (schedule : Schedule) (ways : List ℕ)
    → HasTarget scenario
    → IsAssignment scenario schedule
    → finish_latency (widened scenario) ways (widened_schedule scenario schedule) ≡ finish_latency scenario ways schedule

-- In a scenario that is closed for a latency the target is never delivered later.
abbrev pub ClosedFinishing : Type 0
ClosedFinishing =
    (scenario : Scenario) (ways : List ℕ) (latency : ℕ)
    → IsScenario scenario
    → IsTrue (closes_finishing scenario ways latency)
    → IsUpperOfFinishes scenario ways latency

-- Each scenario is closed for its plain bound.
abbrev pub ClosesAtPlainFinish : Type 0
ClosesAtPlainFinish = (scenario : Scenario) (ways : List ℕ) → IsTrue (closes_finishing scenario ways (plain_finish_bound scenario ways))

-- ways in ticks so many times as fine take no longer
abbrev pub AreFinerWays : ℕ → List ℕ → List ℕ → Type 0
AreFinerWays times ways finer = (n k : ℕ) → way_at finer n k ≤ times * way_at ways n k

-- In real time whole ticks are enough: in finer ticks the target is never delivered later than in whole ones, whatever part of a tick they are.
abbrev pub FinishesInFinerTicks : Type 0
FinishesInFinerTicks =
    (times : ℕ) (scenario finer : Scenario) (ways finer_ways : List ℕ) (latency : ℕ)
    → IsScenario scenario → scenario.time ≡ Real → IsFiner times scenario finer → AreFinerWays times ways finer_ways
    → IsUpperOfFinishes scenario ways latency
    → IsUpperOfFinishes finer finer_ways (times * latency)
