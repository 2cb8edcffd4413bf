use Rattle.convoy_finishes.proofs.ClosedFinishes.{closes_at_plain}
use Rattle.convoy_finishes.proofs.finish_laws.closes_at_plain_finish.Goals as goal

pub returns : goal.returns
returns c = closes_at_plain
