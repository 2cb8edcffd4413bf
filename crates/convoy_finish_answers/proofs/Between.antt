-- The latency where replicas have to answer, from a number that some run has and another that none exceeds.
use Rattle.std.proofs.Common.{◌≡◌, ◌+◌, ◌≤◌, ℕ, List, sym, subst, arith}
use Rattle.convoy_scenario.specs.Scenario.{Scenario}
use Rattle.convoy_scenario.specs.WellFormed.{IsScenario}
use Rattle.convoy_packets.specs.Assignment.{Schedule, IsAssignment}
use Rattle.convoy_sim.specs.Times.{issue}
use Rattle.convoy_finishes.specs.FinishLaws.{LatestFinishes}
use Rattle.convoy_finishes.specs.Finishes.{IsFinishReached, IsUpperOfFinishes, finish_latency}
use Rattle.convoy_finishes.specs.WhiteBox.{white_box_ways}
use Rattle.convoy_finish_answers.specs.declared.finishing.SoughtFinish.{SoughtFinish}
use Rattle.convoy_finish_answers.specs.AcceptedLatencies.{IsFinishBetween}
use Rattle.convoy_finish_answers.specs.FinishProofs.{IsSought}

-- what some run has is no greater than what none exceeds
reached_is_below : (scenario : Scenario) (ways : List ℕ) (least most : ℕ) → IsFinishReached scenario ways least → IsUpperOfFinishes scenario ways most → least ≤ most
reached_is_below scenario ways least most (schedule, assigned, (finished, finishing, delivered)) safe =
    let below : issue scenario schedule scenario.target_message + least ≤ issue scenario schedule scenario.target_message + most =
    safe schedule assigned finished (issue scenario schedule scenario.target_message + least) finishing delivered in
    omega (arith, below)

pub between : (scenario : Scenario) (replicas : List ℕ) (least most : ℕ) (ways : List ℕ) → ways ≡ white_box_ways scenario replicas →
    IsFinishReached scenario ways least → IsUpperOfFinishes scenario ways most → IsFinishBetween scenario replicas least most
between scenario replicas least most ways are reached safe =
    let by_replicas : IsUpperOfFinishes scenario (white_box_ways scenario replicas) most =
    subst (λ (w : List ℕ). IsUpperOfFinishes scenario w most) are safe in
    let of_replicas : IsFinishReached scenario (white_box_ways scenario replicas) least =
    subst (λ (w : List ℕ). IsFinishReached scenario w least) are reached in
    record {
      reached = of_replicas;
      safe = by_replicas;
      ordered = reached_is_below scenario ways least most reached safe;
      greatest = λ is. record { reached = of_replicas; upper = subst (IsUpperOfFinishes scenario (white_box_ways scenario replicas)) (sym is) by_replicas };
    }

-- the finish latency of an assignment is one that some run has
pub reached_by : LatestFinishes → (scenario : Scenario) (ways : List ℕ) (schedule : Schedule) (latency : ℕ) → IsScenario scenario → IsAssignment scenario schedule →
    latency ≡ finish_latency scenario ways schedule → IsFinishReached scenario ways latency
reached_by law scenario ways schedule latency lawful assigned is =
    subst (IsFinishReached scenario ways) (sym is) (schedule, assigned, (law scenario schedule ways lawful).0)

-- so what was sought is known, once the schedule is an assignment with that finish latency, and none exceeds the other number
pub sought_by : LatestFinishes → (scenario : Scenario) (ways : List ℕ) (sought : SoughtFinish) → IsScenario scenario → IsAssignment scenario sought.schedule →
    sought.least ≡ finish_latency scenario ways sought.schedule → IsUpperOfFinishes scenario ways sought.most → IsSought scenario ways sought
sought_by law scenario ways sought lawful assigned is safe = record {
  assigned = assigned;
  latency = is;
  reached = reached_by law scenario ways sought.schedule sought.least lawful assigned is;
  safe = safe;
}
