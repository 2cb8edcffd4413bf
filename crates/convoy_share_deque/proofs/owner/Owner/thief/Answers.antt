use Rattle.std.proofs.Common.{ap, arith}
use Rattle.convoy_share_deque.specs.Tasks.{OwnerEnd}
use Rattle.convoy_share_deque.proofs.Steps.{forks}
use Rattle.convoy_share_deque.proofs.owner.Owner.thief.Goals as goal

pub another-pass-requires : goal.another-pass-requires
another-pass-requires c = forks _ _ (omega (arith, c.requires, ap (λ (o : OwnerEnd). o.share) c.self.view_is))
