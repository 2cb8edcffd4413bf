-- The laws of the crates below on which those of sure leads stand.
use Rattle.convoy_sim.specs.ProtocolLaws.{StampsRise, StampsRisePastCommit, NoLocalStampIsGreater}
use Rattle.convoy_sim.specs.RaiseLaws.{LastRaise}

pub record LawsBelow : Type 0 where
  pub rise : StampsRise
  pub rise_past : StampsRisePastCommit
  pub not_greater : NoLocalStampIsGreater
  pub raise : LastRaise
