use Rattle.convoy_share_deque.proofs.Steps.{merges}
use Rattle.convoy_share_deque.proofs.owner.Owner.join.Goals as goal

pub absorb-requires-clause-rule : goal.absorb-requires-clause-rule
absorb-requires-clause-rule c = merges _ _ _ _ c.self.invariant.2 c.into_pass.ensures.guest
