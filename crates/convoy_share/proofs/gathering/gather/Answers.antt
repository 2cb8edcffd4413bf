use Rattle.std.proofs.Common.{ap, ◌∙◌, ℕ, ◌++◌, [], ◌∷◌}
use Rattle.convoy_ledger.specs.Tickets.{Account}
use Rattle.convoy_share.specs.Common.{common_of}
use Rattle.convoy_share.proofs.Worked.{owner_joined}
use Rattle.convoy_share.proofs.gathering.gather.Goals as goal

pub returns-clause-owner : goal.returns-clause-owner
returns-clause-owner c deque hand clerk share joined least hand_too clerk_too mine theirs =
    let clerks = c.join-2.ensures in
    let listed = c.in_ok-push.ensures.items ∙ ap (λ (n : ℕ). c.args.owner.now.drawn_by_thieves.items ++ n ∷ []) c.drawn.ensures in
    owner_joined c.fronts_better.ensures (common_of c.args.shared.now) deque hand clerk share joined least hand_too clerk_too c.args.owner.now _ c.args.thief mine theirs c.join.ensures (ap (λ (a : Account). a.ledger) clerks) (ap (λ (a : Account). a.share) clerks) (ap (λ (a : Account). a.tickets) clerks) c.join-3.ensures c.in_ok-append.ensures.items listed
