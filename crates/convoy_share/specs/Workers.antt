-- What a worker brings: its shares, its end of the deque, and a tree for each branch that it took.
use Rattle.std.specs.Prelude.{◌≡◌, ℕ, ◌+◌, ◌≤◌, ◌<◌, List, length, slice_index_or, []}
use Rattle.std.specs.List.{sum, sum_by}
use Rattle.convoy_regions.specs.Regions.{any_order, root_region}
use Rattle.convoy_share_deque.specs.Tasks.{DequeId}
use Rattle.convoy_share.specs.declared.workers.OwnerWorker.{OwnerWorker}
use Rattle.convoy_share.specs.declared.workers.ThiefWorker.{ThiefWorker}
use Rattle.convoy_share.specs.Common.{Common}
use Rattle.convoy_share.specs.Subtrees.{IsResult}
use Rattle.convoy_share.specs.Means.{drawn}

-- A thief in that search, of that deque, with these shares of board and ledger. It has put no branch.
pub record IsThief (shared : Common) (deque : DequeId) (hand clerk : ℕ) (worker : ThiefWorker) : Type 0 where
  pub board_is : worker.means.hand.board ≡ shared.board
  pub ledger_is : worker.means.clerk.ledger ≡ shared.ledger
  pub hand_is : worker.means.hand.share ≡ hand
  pub clerk_is : worker.means.clerk.share ≡ clerk
  pub deque_is : worker.end.deque ≡ deque
  pub scenario_is : worker.end.scenario ≡ shared.scenario
  pub result : IsResult shared.bounds shared.scenario worker.means.hand.seen (drawn worker.means) 0 [] worker.end.taken worker.trees.items

-- The owner in that search, of that deque, with these shares of board, ledger and deque. It has joined so many thieves, and has seen a latency no less than that one. The branch that was put first is the root.
pub record IsOwner (shared : Common) (deque : DequeId) (hand clerk share joined least : ℕ) (worker : OwnerWorker) : Type 0 where
  pub board_is : worker.means.hand.board ≡ shared.board
  pub ledger_is : worker.means.clerk.ledger ≡ shared.ledger
  pub hand_is : worker.means.hand.share ≡ hand
  pub clerk_is : worker.means.clerk.share ≡ clerk
  pub deque_is : worker.end.deque ≡ deque
  pub scenario_is : worker.end.scenario ≡ shared.scenario
  pub share_is : worker.end.share ≡ share
  pub some_put : 0 < length worker.end.put
  pub root : slice_index_or worker.end.put 0 (any_order []) ≡ root_region shared.scenario
  pub result : IsResult shared.bounds shared.scenario worker.means.hand.seen (drawn worker.means) 1 worker.end.put worker.end.taken worker.trees.items
  pub joined_is : length worker.drawn_by_thieves.items ≡ joined
  pub theirs : sum worker.drawn_by_thieves.items ≤ drawn worker.means
  pub no_less : least ≤ worker.means.hand.seen

-- a thief of that deque, with the shares that it has
abbrev pub IsThiefOf : Common → DequeId → ThiefWorker → Type 0
IsThiefOf shared deque worker = IsThief shared deque worker.means.hand.share worker.means.clerk.share worker

-- a thief with the deque and the shares that it had before
abbrev pub StaysThief : Common → ThiefWorker → ThiefWorker → Type 0
StaysThief shared before worker = IsThief shared before.end.deque before.means.hand.share before.means.clerk.share worker

-- the owner with the deque and the shares that it had before; it has joined no more thieves, and has seen no less
abbrev pub StaysOwner : Common → OwnerWorker → OwnerWorker → Type 0
StaysOwner shared before worker =
    IsOwner shared before.end.deque before.means.hand.share before.means.clerk.share before.end.share (length before.drawn_by_thieves.items) before.means.hand.seen worker

-- the shares of all thieves
abbrev pub hand_shares : List ThiefWorker → ℕ
hand_shares thieves = sum_by (λ thief. thief.means.hand.share) thieves

abbrev pub clerk_shares : List ThiefWorker → ℕ
clerk_shares thieves = sum_by (λ thief. thief.means.clerk.share) thieves

-- the owner, once it took in what those thieves brought
abbrev pub HasJoined : Common → OwnerWorker → List ThiefWorker → OwnerWorker → Type 0
HasJoined shared owner thieves worker =
    IsOwner shared owner.end.deque (owner.means.hand.share + hand_shares thieves) (owner.means.clerk.share + clerk_shares thieves) (owner.end.share + length thieves) (length owner.drawn_by_thieves.items + length thieves) owner.means.hand.seen worker
