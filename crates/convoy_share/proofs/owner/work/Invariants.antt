use Rattle.convoy_share.specs.Common.{common_of}
use Rattle.convoy_share.specs.Workers.{StaysOwner}
use Rattle.convoy_share.proofs.owner.work.Given as goal

abbrev pub invariant-loop : goal.invariant-loop
invariant-loop g l = StaysOwner (common_of l.shared) l.fn.worker l.worker
