use Rattle.std.proofs.Common.{refl, ap}
use Rattle.convoy_share_deque.specs.declared.rule.View.{View}
use Rattle.convoy_share_deque.proofs.Steps.{begins, opens}
use Rattle.convoy_share_deque.proofs.owner.Owner.open.Goals as goal

pub lifo_as-requires : goal.lifo_as-requires
lifo_as-requires c = begins

pub push_as-requires-clause-pushes : goal.push_as-requires-clause-pushes
push_as-requires-clause-pushes c =
    let new = c.in_ok-worker.ensures.4 in
    opens _ _ _ (ap (λ (v : View). v.owns) new) (ap (λ (v : View). v.share) new) (ap (λ (v : View). v.put) new) refl
