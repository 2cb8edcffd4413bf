use Rattle.convoy_finishes.proofs.Latest.{latest_finishes}
use Rattle.convoy_finishes.proofs.finish_laws.latest_finishes.Goals as goal

pub returns : goal.returns
returns c = latest_finishes c.earlier_arrives_before_commit.ensures c.arrives_before_commit.ensures c.arrives_after_issue.ensures
