use Rattle.convoy_finishes.proofs.Latest.{met_greatest}
use Rattle.convoy_finishes.proofs.finish_laws.met_upper_is_greatest.Goals as goal

pub returns : goal.returns
returns c = met_greatest c.latest_finishes.ensures
