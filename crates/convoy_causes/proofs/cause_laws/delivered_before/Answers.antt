use Rattle.convoy_causes.proofs.Before.{delivered_before}
use Rattle.convoy_causes.proofs.cause_laws.delivered_before.Goals as goal

pub returns : goal.returns
returns c = delivered_before c.behind_is_not_ahead.ensures c.earlier_arrives_before_commit.ensures c.delivery_law.ensures
