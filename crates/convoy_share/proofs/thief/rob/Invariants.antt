use Rattle.convoy_share.specs.Common.{common_of}
use Rattle.convoy_share.specs.Workers.{StaysThief}
use Rattle.convoy_share.proofs.thief.rob.Given as goal

abbrev pub invariant-loop : goal.invariant-loop
invariant-loop g l = StaysThief (common_of l.shared) l.fn.worker l.worker
