-- The workers are opened one by one.
use Rattle.std.specs.Prelude.{◌≡◌, ℕ, zero, suc, ◌+◌, ◌-◌, ◌/◌, ◌≤◌, ◌<◌, List, [], ◌∷◌, ◌++◌, length}
use Rattle.std.specs.List.{All}
use Rattle.std.proofs.Common.{arith, refl, ap, sym, subst, ◌∙◌, length-append}
use Rattle.std.proofs.lemmas.List.Elements.{All-nil, All-push}
use Rattle.std.proofs.lemmas.List.Sums.{sum_by_push}
use Rattle.convoy_shares.specs.Shares.{whole}
use Rattle.convoy_share_deque.specs.Tasks.{DequeId, whole_share}
use Rattle.convoy_share.specs.declared.workers.OwnerWorker.{OwnerWorker}
use Rattle.convoy_share.specs.declared.workers.ThiefWorker.{ThiefWorker}
use Rattle.convoy_share.specs.Common.{Common}
use Rattle.convoy_share.specs.Opening.{AreOpened, room}
use Rattle.convoy_share.specs.Workers.{IsOwner, IsThief, IsThiefOf}
use Rattle.convoy_share.proofs.Worked.{owner_own}

room_some : (n : ℕ) → 1 ≤ room n
room_some zero = omega arith
room_some (suc n) = omega (arith, room_some n)

room_add : (n m : ℕ) → room n ≤ room (m + n)
room_add n zero = (let e : 0 + n ≡ n = omega arith in omega (arith, ap room e))
room_add n (suc m) = (let e : suc m + n ≡ suc (m + n) = omega arith in omega (arith, ap room e, room_add n m))

-- a whole share has room for fifteen thieves
room_whole : (n : ℕ) → n ≤ 15 → room n ≤ 4294967296
room_whole n few =
    let most : room 15 ≡ 32768 = refl in
    let same : (15 - n) + n ≡ 15 = omega (arith, few) in
    omega (arith, most, room_add n (15 - n), ap room same)

-- a share with room for one more
room_more : (n k share : ℕ) → k ≡ n + 1 → room k ≤ share → (1 < share) × (room n ≤ share / 2) × (room n ≤ share - share / 2)
room_more n k share same left =
    let twice : room k ≡ room n + room n = ap room same ∙ room_twice n in
    let some = room_some n in
    (omega (arith, twice, some, left), omega (arith, twice, left), omega (arith, twice, left)) where
      room_twice : (n : ℕ) → room (n + 1) ≡ room n + room n
      room_twice n = (let e : n + 1 ≡ suc n = omega arith in ap room e)

pub AreOpened-start : (shared : Common) (workers least : ℕ) (owner : OwnerWorker) → 1 ≤ workers → workers ≤ 16 → IsOwner shared owner.end.deque whole whole whole_share 0 least owner → AreOpened shared workers least 1 owner []
AreOpened-start shared workers least owner some few is =
    let left = room_whole (workers - 1) (omega (arith, few)) in
    record {
      owns = owner_own shared owner.end.deque whole whole whole_share 0 least owner is;
      rob = All-nil (IsThiefOf shared owner.end.deque);
      count = omega arith;
      hands = omega (arith, is.hand_is);
      clerks = omega (arith, is.clerk_is);
      shares = omega (arith, is.share_is);
      hand_room = omega (arith, is.hand_is, left);
      clerk_room = omega (arith, is.clerk_is, left);
      none_joined = is.joined_is;
      no_less = is.no_less;
    }

-- there is room for one thief more
pub AreOpened-room : (shared : Common) (workers least number : ℕ) (owner : OwnerWorker) (thieves : List ThiefWorker) → number < workers → workers ≤ 16 → AreOpened shared workers least number owner thieves → (1 < owner.means.hand.share) × (1 < owner.means.clerk.share) × (1 < owner.end.share)
AreOpened-room shared workers least number owner thieves more few are =
    let next : workers - number ≡ (workers - (number + 1)) + 1 = omega (arith, more) in (
      (room_more (workers - (number + 1)) (workers - number) owner.means.hand.share next are.hand_room).0,
      (room_more (workers - (number + 1)) (workers - number) owner.means.clerk.share next are.clerk_room).0,
      omega (arith, are.shares, are.count, more, few),
    )

pub AreOpened-next : (shared : Common) (workers least number : ℕ) (old new : OwnerWorker) (thieves all : List ThiefWorker) (thief : ThiefWorker) → number < workers → workers ≤ 16 → all ≡ thieves ++ thief ∷ [] → AreOpened shared workers least number old thieves → IsThief shared old.end.deque (old.means.hand.share / 2) (old.means.clerk.share / 2) thief → IsOwner shared old.end.deque (old.means.hand.share - old.means.hand.share / 2) (old.means.clerk.share - old.means.clerk.share / 2) (old.end.share - 1) (length old.drawn_by_thieves.items) old.means.hand.seen new → AreOpened shared workers least (number + 1) new all
AreOpened-next shared workers least number old new thieves all thief more few listed are robs owns =
    subst (λ (ts : List ThiefWorker). AreOpened shared workers least (number + 1) new ts) (sym listed) record {
      owns = owner_own shared old.end.deque _ _ _ _ _ new owns;
      rob = All-push (IsThiefOf shared new.end.deque) thieves thief (subst (λ (d : DequeId). All (IsThiefOf shared d) thieves) (sym owns.deque_is) are.rob) own;
      count = omega (arith, are.count, length-append thieves (thief ∷ []));
      hands = omega (arith, are.hands, owns.hand_is, robs.hand_is, sum_by_push (λ (w : ThiefWorker). w.means.hand.share) thieves thief);
      clerks = omega (arith, are.clerks, owns.clerk_is, robs.clerk_is, sum_by_push (λ (w : ThiefWorker). w.means.clerk.share) thieves thief);
      shares = omega (arith, are.shares, are.count, owns.share_is, few, more, length-append thieves (thief ∷ []));
      hand_room = omega (arith, (room_more (workers - (number + 1)) (workers - number) old.means.hand.share next are.hand_room).2, owns.hand_is);
      clerk_room = omega (arith, (room_more (workers - (number + 1)) (workers - number) old.means.clerk.share next are.clerk_room).2, owns.clerk_is);
      none_joined = owns.joined_is ∙ are.none_joined;
      no_less = omega (arith, are.no_less, owns.no_less);
    } where
      next : workers - number ≡ (workers - (number + 1)) + 1
      next = omega (arith, more)

      own : IsThiefOf shared new.end.deque thief
      own = record {
        board_is = robs.board_is;
        ledger_is = robs.ledger_is;
        hand_is = refl;
        clerk_is = refl;
        deque_is = robs.deque_is ∙ sym owns.deque_is;
        scenario_is = robs.scenario_is;
        result = robs.result;
      }
