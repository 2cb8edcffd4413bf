use Rattle.convoy_timeline.proofs.Holders.{last_proposals_commit}
use Rattle.convoy_timeline.proofs.explanation_laws.last_proposals_commit.Goals as goal

pub returns : goal.returns
returns c = last_proposals_commit
