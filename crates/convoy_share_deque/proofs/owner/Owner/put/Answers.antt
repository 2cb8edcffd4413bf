use Rattle.std.proofs.Common.{sym, ap, ◌∙◌}
use Rattle.convoy_share_deque.specs.Tasks.{OwnerEnd}
use Rattle.convoy_share_deque.proofs.Steps.{puts}
use Rattle.convoy_share_deque.proofs.owner.Owner.put.Goals as goal

pub push_as-requires-clause-pushes : goal.push_as-requires-clause-pushes
push_as-requires-clause-pushes c =
    let owner = c.self.invariant in
    puts _ _ _ owner.1 owner.2 owner.3 (c.requires ∙ sym (ap (λ (o : OwnerEnd). o.scenario) c.self.view_is))
