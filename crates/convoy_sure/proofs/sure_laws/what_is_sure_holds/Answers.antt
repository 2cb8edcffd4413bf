use Rattle.convoy_sure.proofs.SureLaws.{sure_holds}
use Rattle.convoy_sure.proofs.sure_laws.what_is_sure_holds.Goals as goal

pub returns : goal.returns
returns c scenario schedule tables well enclosed n goes = sure_holds c.laws_below.ensures scenario schedule tables well enclosed n goes
