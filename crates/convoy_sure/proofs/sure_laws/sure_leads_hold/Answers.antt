use Rattle.convoy_sure.proofs.SureLaws.{leads_hold}
use Rattle.convoy_sure.proofs.sure_laws.sure_leads_hold.Goals as goal

pub returns : goal.returns
returns c scenario schedule tables well enclosed n goes = leads_hold c.laws_below.ensures scenario schedule tables well enclosed n goes
