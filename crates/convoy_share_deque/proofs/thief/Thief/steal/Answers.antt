use Rattle.std.proofs.Common.{arith}
use Rattle.convoy_share_deque.proofs.Steps.{takes}
use Rattle.convoy_share_deque.proofs.thief.Thief.steal.Goals as goal

pub steal_as-requires-clause-takes : goal.steal_as-requires-clause-takes
steal_as-requires-clause-takes c = takes _ _ (omega (arith, c.self.invariant.1))
