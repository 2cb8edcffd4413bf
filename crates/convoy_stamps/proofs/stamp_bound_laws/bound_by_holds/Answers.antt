use Rattle.convoy_stamps.proofs.BoundBy.{bound_holds}
use Rattle.convoy_stamps.proofs.stamp_bound_laws.bound_by_holds.Goals as goal

pub returns : goal.returns
returns c scenario schedule tables leaves_out well enclosed keeps =
    bound_holds c.delivery_law.ensures c.earlier_arrives_before_commit.ensures scenario schedule tables leaves_out well enclosed keeps
