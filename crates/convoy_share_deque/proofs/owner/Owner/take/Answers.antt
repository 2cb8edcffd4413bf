use Rattle.convoy_share_deque.proofs.Steps.{pops, finds}
use Rattle.convoy_share_deque.proofs.owner.Owner.take.Goals as goal

pub pop_as-requires-clause-lifo : goal.pop_as-requires-clause-lifo
pop_as-requires-clause-lifo c = λ _. pops _ _ c.self.invariant.2

pub pop_as-requires-clause-empty : goal.pop_as-requires-clause-empty
pop_as-requires-clause-empty c = finds _ _
