-- What is found of the latency of a target where replicas have to answer.
use Rattle.std.specs.Prelude.{◌≡◌, ℕ, ◌≤◌, List}
use Rattle.convoy_scenario.specs.Scenario.{Scenario}
use Rattle.convoy_packets.specs.Assignment.{Schedule, IsAssignment}
use Rattle.convoy_sim.specs.Delivery.{latency_of}
use Rattle.convoy_finishes.specs.Finishes.{IsFinishReached, IsGreatestFinish, IsUpperOfFinishes}
use Rattle.convoy_finishes.specs.WhiteBox.{white_box_ways}
use Rattle.convoy_branch.specs.declared.outcome.Outcome.{Outcome}
use Rattle.convoy_branch.specs.Outcomes.{best_of}

-- Where a packet between the leader of a group and its replicas takes at most as many ticks as are listed by the group's number, some run of the scenario delivers its finished target after `least` ticks, and none after more than `most`.
pub record IsFinishBetween (scenario : Scenario) (replicas : List ℕ) (least most : ℕ) : Type 0 where
  pub reached : IsFinishReached scenario (white_box_ways scenario replicas) least
  pub safe : IsUpperOfFinishes scenario (white_box_ways scenario replicas) most
  pub ordered : least ≤ most
  -- so it is the greatest where the two are one
  pub greatest : least ≡ most → IsGreatestFinish scenario (white_box_ways scenario replicas) least

-- The schedule has the latency that a search of the scenario which ended so has found.
pub record IsBestOf (scenario : Scenario) (outcome : Outcome) (schedule : Schedule) : Type 0 where
  pub assigned : IsAssignment scenario schedule
  pub latency : latency_of scenario schedule ≡ best_of outcome
