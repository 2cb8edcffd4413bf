use Rattle.std.proofs.Common.{ℕ, List, subst, sym}
use Rattle.convoy_share_deque.specs.Tasks.{whole_share}
use Rattle.convoy_shares.specs.Shares.{whole}
use Rattle.convoy_share.specs.declared.workers.ThiefWorker.{ThiefWorker}
use Rattle.convoy_share.specs.Common.{common_of}
use Rattle.convoy_share.specs.Opening.{AreOpened}
use Rattle.convoy_share.specs.Workers.{IsOwner}
use Rattle.convoy_share.proofs.Openings.{AreOpened-room, AreOpened-next, AreOpened-start}
use Rattle.convoy_share.proofs.opening.open_workers.Goals as goal

pub open_thief-requires-clause-hand : goal.open_thief-requires-clause-hand
open_thief-requires-clause-hand c =
    (AreOpened-room (common_of c.args.shared.now) c.args.shared.now.workers c.args.hand.seen c.loop-number.number c.loop-number.owner c.loop-number.thieves.items c.loop-number-test.true c.requires.workers.1 c.loop-number.invariant).0

pub open_thief-requires-clause-clerk : goal.open_thief-requires-clause-clerk
open_thief-requires-clause-clerk c =
    (AreOpened-room (common_of c.args.shared.now) c.args.shared.now.workers c.args.hand.seen c.loop-number.number c.loop-number.owner c.loop-number.thieves.items c.loop-number-test.true c.requires.workers.1 c.loop-number.invariant).1

pub open_thief-requires-clause-share : goal.open_thief-requires-clause-share
open_thief-requires-clause-share c =
    (AreOpened-room (common_of c.args.shared.now) c.args.shared.now.workers c.args.hand.seen c.loop-number.number c.loop-number.owner c.loop-number.thieves.items c.loop-number-test.true c.requires.workers.1 c.loop-number.invariant).2

pub loop-number-preserved : goal.loop-number-preserved
loop-number-preserved c =
    let shared = c.args.shared.now in
    let here = c.loop-number in
    let told = c.in_ok-open_thief.ensures in
    AreOpened-next (common_of shared) shared.workers c.args.hand.seen here.number here.owner c.open_thief.new.owner here.thieves.items c.push.new.self.items c.in_ok-open_thief.field-0 c.loop-number-test.true c.requires.workers.1 c.in_ok-push.ensures.items here.invariant told.thief told.owner

pub loop-number-init : goal.loop-number-init
loop-number-init c =
    let shared = c.args.shared.now in
    let common = common_of shared in
    let seen = c.args.hand.seen in
    let owner = c.in_ok-owner.owner in
    let deque = owner.end.deque in
    let by_hand = subst (λ (share : ℕ). IsOwner common deque share c.args.clerk.share whole_share 0 seen owner) c.requires.hand.1 c.in_ok-owner.ensures in
    let by_clerk = subst (λ (share : ℕ). IsOwner common deque whole share whole_share 0 seen owner) c.requires.clerk.1 by_hand in
    subst (λ (ts : List ThiefWorker). AreOpened common shared.workers seen 1 owner ts) (sym c.new-thieves.ensures.items) (AreOpened-start common shared.workers seen owner c.requires.workers.0 c.requires.workers.1 by_clerk)
