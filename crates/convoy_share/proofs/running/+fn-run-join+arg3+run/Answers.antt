use Rattle.std.proofs.Common.{rules, ◌≡◌, ◌<◌, ◌+◌, ◌++◌, length, List, [], ◌∷◌, sym, subst, ◌∙◌, arith, Some, length-append}
use Rattle.std.specs.List.{All}
use Rattle.std.proofs.lemmas.List.Elements.{All-pop}
use Rattle.convoy_share.specs.declared.workers.ThiefWorker.{ThiefWorker}
use Rattle.convoy_share.specs.Common.{common_of}
use Rattle.convoy_share.specs.Workers.{HasJoined, IsThief, IsThiefOf, StaysThief}
use Rattle.convoy_share.specs.Workers.{hand_shares, clerk_shares}
use Rattle.convoy_share.proofs.Worked.{thief_own, joined_more}
use Rattle.convoy_share.proofs.running.+fn-run-join+arg3+run.Goals as goal

pub join-robbed-requires-after_bounds : goal.join-robbed-requires-after_bounds
join-robbed-requires-after_bounds g t c κs within =
    let shared = c.args.shared.now in
    let common = common_of shared in
    let P = IsThiefOf common c.args.owner.end.deque in
    let thief = c.in-Some.thief in
    let rest = c.pop.new.self.items in
    let parts = All-pop P c.args.thieves.items rest (Some thief) c.in-Some.ensures.items c.requires.thieves in
    let others : All P rest = parts.0 in
    let own : StaysThief common thief thief = thief_own common c.args.owner.end.deque thief.means.hand.share thief.means.clerk.share thief parts.1 in
    let popped : c.args.thieves.items ≡ rest ++ thief ∷ [] = c.in-Some.ensures.items in
    let fewer : length rest < length c.args.thieves.items = subst (λ (ts : List ThiefWorker). length rest < length ts) (sym popped) (omega (arith, length-append rest (thief ∷ []))) in
    ((shared.of_scenario, own), search (rules, others, fewer, shared.of_scenario))

pub gather-requires-clause-deque : goal.gather-requires-clause-deque
gather-requires-clause-deque g t c =
    let common = common_of c.args.shared.now in
    let P = IsThiefOf common c.args.owner.end.deque in
    let parts = All-pop P c.args.thieves.items c.pop.new.self.items (Some c.in-Some.thief) c.in-Some.ensures.items c.requires.thieves in
    let robbed : StaysThief common c.in-Some.thief c.in_ok-thief.thief = search (rules, c.join-robbed.ensures.first, c.in_ok-thief.was) in
    let worked : HasJoined common c.args.owner c.pop.new.self.items c.in_ok-joined.joined = search (rules, c.join-robbed.ensures.second, c.in_ok-joined.was) in
    robbed.deque_is ∙ (parts.1.deque_is ∙ sym worked.deque_is)

pub returns : goal.returns
returns g t c =
    let common = common_of c.args.shared.now in
    let owner = c.args.owner in
    let thief = c.in-Some.thief in
    let rest = c.pop.new.self.items in
    let P = IsThiefOf common owner.end.deque in
    let parts = All-pop P c.args.thieves.items rest (Some thief) c.in-Some.ensures.items c.requires.thieves in
    let robbed : StaysThief common thief c.in_ok-thief.thief = search (rules, c.join-robbed.ensures.first, c.in_ok-thief.was) in
    let here : IsThief common owner.end.deque thief.means.hand.share thief.means.clerk.share c.in_ok-thief.thief = subst (λ d. IsThief common d thief.means.hand.share thief.means.clerk.share c.in_ok-thief.thief) parts.1.deque_is robbed in
    let worked : HasJoined common owner rest c.in_ok-joined.joined = search (rules, c.join-robbed.ensures.second, c.in_ok-joined.was) in
    joined_more common owner c.gather.new.owner c.args.thieves.items rest thief c.in-Some.ensures.items (c.in_ok-gather.ensures.owner owner.end.deque (owner.means.hand.share + hand_shares rest) (owner.means.clerk.share + clerk_shares rest) (owner.end.share + length rest) (length owner.drawn_by_thieves.items + length rest) owner.means.hand.seen thief.means.hand.share thief.means.clerk.share worked here)
