-- The laws of packets and of the protocol on which the proofs of this crate stand.
use Rattle.convoy_packets.specs.ScheduleLaws.{PacketsAreThoseSent, PlacesLeadBack, DelaysAreWithin, UnsentTakesNoTime, FixedOrderIsOrder}
use Rattle.convoy_sim.specs.ProtocolLaws.{DeliveryLaw, FinalStampIsLocal, LocalStampNamesGroup, NoLocalStampIsGreater, StampsRise, StampsRisePastCommit}
use Rattle.convoy_sim.specs.RaiseLaws.{LastRaise}

-- those of schedules
pub record Packets : Type 0 where
  pub sent : PacketsAreThoseSent
  pub places : PlacesLeadBack
  pub within : DelaysAreWithin
  pub unsent : UnsentTakesNoTime
  pub fixed : FixedOrderIsOrder

-- those of the times of stamps
pub record Stamps : Type 0 where
  pub local : FinalStampIsLocal
  pub greatest : NoLocalStampIsGreater
  pub rise : StampsRise
  pub past_commit : StampsRisePastCommit
  pub last : LastRaise

-- those of delivery
pub record Deliveries : Type 0 where
  pub local : FinalStampIsLocal
  pub greatest : NoLocalStampIsGreater
  pub names : LocalStampNamesGroup
  pub delivery : DeliveryLaw
