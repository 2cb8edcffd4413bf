-- The laws of packets and of the protocol on which the proofs of this crate stand.
use Rattle.convoy_packets.specs.ScheduleLaws.{PacketsAreThoseSent, PlacesLeadBack, DelaysAreWithin, UnsentTakesNoTime}
use Rattle.convoy_sim.specs.ProtocolLaws.{ArrivesBeforeCommit, IssuedAtItsTick, IssuedWithinItsWait}

pub record Used : Type 0 where
  pub sent : PacketsAreThoseSent
  pub places : PlacesLeadBack
  pub within : DelaysAreWithin
  pub unsent : UnsentTakesNoTime
  pub at_tick : IssuedAtItsTick
  pub in_wait : IssuedWithinItsWait
  pub arrivals : ArrivesBeforeCommit
