-- The laws of packets and of finer ticks on which the proofs of this crate stand.
use Rattle.convoy_packets.specs.ScheduleLaws.{PacketsAreThoseSent, PlacesLeadBack, UnsentTakesNoTime}
use Rattle.convoy_laws.specs.FinerTicks.{ScenariosAreRoundable, WholeTicksAreEnough}

pub record Used : Type 0 where
  pub sent : PacketsAreThoseSent
  pub places : PlacesLeadBack
  pub unsent : UnsentTakesNoTime
  pub roundable : ScenariosAreRoundable
  pub enough : WholeTicksAreEnough
