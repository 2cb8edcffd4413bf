use Rattle.convoy_finishes.proofs.ClosedFinishes.{closed_over}
use Rattle.convoy_finishes.proofs.finish_laws.closed_finishing_over_windows.Goals as goal

pub returns : goal.returns
returns c = closed_over c.behind_is_not_ahead.ensures c.earlier_arrives_before_commit.ensures c.issued_within_its_wait.ensures.from_tick
