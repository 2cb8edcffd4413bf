-- What a thread does with a clerk or a hand of its own.
use Rattle.std.specs.Prelude.{◌≡◌, ℕ, ◌≤◌, true}
use Rattle.convoy_library.specs.Tickets.{Account}
use Rattle.convoy_library.specs.Shares.{whole}
use Rattle.convoy_library.specs.Boards.{BoardId, Holding}

-- the clerk has drawn until no ticket was left
pub record DrawsAll (before after : Account) : Type 0 where
  pub ledger : after.ledger ≡ before.ledger
  pub share : after.share ≡ before.share
  pub done : after.done ≡ true

-- the one hand of a board that was opened with a record of that latency
pub record IsFirstHand (opened : BoardId) (latency : ℕ) (hand : Holding) : Type 0 where
  pub board : hand.board ≡ opened
  pub share : hand.share ≡ whole
  pub seen : latency ≤ hand.seen

-- the hand has published a record of that latency
pub record Publishes (before : Holding) (latency : ℕ) (after : Holding) : Type 0 where
  pub board : after.board ≡ before.board
  pub share : after.share ≡ before.share
  pub seen : before.seen ≤ after.seen
  pub published : latency ≤ after.seen
