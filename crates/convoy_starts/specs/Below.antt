-- The laws of the crates below on which those of leads stand.
use Rattle.convoy_sim.specs.ProtocolLaws.{DeliveryLaw, EarlierArrivesBeforeCommit, LocalStampNamesGroup, FinalStampIsLocal, NoLocalStampIsGreater}
use Rattle.convoy_sim.specs.RaiseLaws.{LastRaise}
use Rattle.convoy_stamps.specs.StampBoundLaws.{StampsWithinReach}
use Rattle.convoy_sure.specs.SureLaws.{CutsEnclose, SureArrivalsRise, WhatIsSureHolds}

pub record LawsBelow : Type 0 where
  pub delivery : DeliveryLaw
  pub earlier : EarlierArrivesBeforeCommit
  pub names : LocalStampNamesGroup
  pub is_local : FinalStampIsLocal
  pub not_greater : NoLocalStampIsGreater
  pub raise : LastRaise
  pub within : StampsWithinReach
  pub cuts : CutsEnclose
  pub arrivals_rise : SureArrivalsRise
  pub sure : WhatIsSureHolds
