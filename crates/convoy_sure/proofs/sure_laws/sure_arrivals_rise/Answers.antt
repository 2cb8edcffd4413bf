use Rattle.convoy_sure.proofs.SureLaws.{arrivals_rise}
use Rattle.convoy_sure.proofs.sure_laws.sure_arrivals_rise.Goals as goal

pub returns : goal.returns
returns c scenario schedule tables well enclosed q g tick goes soon z to after =
    arrivals_rise c.laws_below.ensures scenario schedule tables well enclosed q g tick goes soon z to after
