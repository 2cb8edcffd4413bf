-- The laws of scenarios, of packets and of the protocol on which the proofs of this crate stand.
use Rattle.convoy_scenario.specs.ScenarioLaws.{HomesDecideWhatTakesTime}
use Rattle.convoy_packets.specs.ScheduleLaws.{DelaysAreWithin, FixedOrderIsOrder, UnsentTakesNoTime}
use Rattle.convoy_sim.specs.Traffic.{TrafficDeliveryBound}

pub record Used : Type 0 where
  pub bound : TrafficDeliveryBound
  pub within : DelaysAreWithin
  pub fixed : FixedOrderIsOrder
  pub unsent : UnsentTakesNoTime
  pub homes : HomesDecideWhatTakesTime
