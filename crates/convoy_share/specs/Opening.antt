-- The workers, as they are opened.
use Rattle.std.specs.Prelude.{◌≡◌, ℕ, zero, suc, ◌+◌, ◌-◌, ◌≤◌, List, length}
use Rattle.std.specs.List.{All}
use Rattle.convoy_share_deque.specs.Tasks.{whole_share}
use Rattle.convoy_shares.specs.Shares.{whole}
use Rattle.convoy_share.specs.declared.workers.OwnerWorker.{OwnerWorker}
use Rattle.convoy_share.specs.declared.workers.ThiefWorker.{ThiefWorker}
use Rattle.convoy_share.specs.Common.{Common}
use Rattle.convoy_share.specs.Workers.{IsThiefOf, StaysOwner, hand_shares, clerk_shares}

-- a share that can be halved so many times
abbrev pub room : ℕ → ℕ
room zero = 1
room (suc n) = room n + room n

-- The owner, and the thieves whose numbers are below that one: all have the whole of each share, and the owner has room for the other thieves. It has seen a latency no less than that one.
pub record AreOpened (shared : Common) (workers least number : ℕ) (owner : OwnerWorker) (thieves : List ThiefWorker) : Type 0 where
  pub owns : StaysOwner shared owner owner
  pub rob : All (IsThiefOf shared owner.end.deque) thieves
  pub count : length thieves + 1 ≡ number
  pub hands : owner.means.hand.share + hand_shares thieves ≡ whole
  pub clerks : owner.means.clerk.share + clerk_shares thieves ≡ whole
  pub shares : owner.end.share + length thieves ≡ whole_share
  pub hand_room : room (workers - number) ≤ owner.means.hand.share
  pub clerk_room : room (workers - number) ≤ owner.means.clerk.share
  pub none_joined : length owner.drawn_by_thieves.items ≡ 0
  pub no_less : least ≤ owner.means.hand.seen
