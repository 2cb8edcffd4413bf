use Rattle.convoy_share.specs.Common.{common_of}
use Rattle.convoy_share.specs.Workers.{StaysOwner}
use Rattle.convoy_share.proofs.ending.drain.Given as goal

abbrev pub invariant-loop : goal.invariant-loop
invariant-loop g l = StaysOwner (common_of l.shared) l.initial.worker l.worker
