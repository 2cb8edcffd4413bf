use Rattle.convoy_finishes.proofs.Latest.{upper_decided}
use Rattle.convoy_finishes.proofs.finish_laws.upper_of_finish_latencies.Goals as goal

pub returns : goal.returns
returns c = upper_decided c.latest_finishes.ensures
