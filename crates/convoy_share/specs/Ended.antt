-- What all workers have brought, and what a search has come to.
use Rattle.std.specs.Prelude.{◌≡◌, ◌⊎◌, ℕ, ◌≤◌, List, [], true, length}
use Rattle.std.specs.List.{sum}
use Rattle.convoy_scenario.specs.Scenario.{Scenario}
use Rattle.convoy_sim.specs.Record.{IsAttained}
use Rattle.convoy_regions.specs.Regions.{Region}
use Rattle.convoy_branch.specs.declared.bounds.Bounds.{Bounds}
use Rattle.convoy_branch.specs.declared.limit.Limit.{Limit}
use Rattle.convoy_branch.specs.Fronts.{left_in}
use Rattle.convoy_branch.specs.Outcomes.{AreTicketsByWorker}
use Rattle.convoy_share.specs.declared.ending.Ended.{Ended}
use Rattle.convoy_share.specs.declared.piece.Piece.{Piece}
use Rattle.convoy_share.specs.declared.searching.Closed.{Closed}
use Rattle.convoy_share.specs.Common.{Common}
use Rattle.convoy_share.specs.Filling.{IsFilling}
use Rattle.convoy_share.specs.Means.{IsOver}
use Rattle.convoy_share.specs.Pieces.{front, left_regions}

-- A whole tree, where that latency was seen and so many tickets were drawn: each node is right, and there is one for each ticket.
pub record IsWhole (bounds : Bounds) (scenario : Scenario) (seen tickets : ℕ) (pieces : List Piece) : Type 0 where
  pub put : List Region
  pub slots : List (List Piece)
  pub filling : IsFilling bounds scenario seen tickets put pieces [] slots

-- what the owner and so many thieves have brought, with those shares of board and ledger; a latency no less than that one was seen, and unless all tickets were drawn or the search may be stopped, nothing is left
pub record IsEnded (shared : Common) (hand clerk joined least : ℕ) (ended : Ended) : Type 0 where
  pub board_is : ended.hand.board ≡ shared.board
  pub ledger_is : ended.clerk.ledger ≡ shared.ledger
  pub hand_is : ended.hand.share ≡ hand
  pub clerk_is : ended.clerk.share ≡ clerk
  pub no_less : least ≤ ended.hand.seen
  pub joined_is : length ended.drawn_by_thieves.items ≡ joined
  pub theirs : sum ended.drawn_by_thieves.items ≤ length ended.clerk.tickets
  pub whole : IsWhole shared.bounds shared.scenario ended.hand.seen (length ended.clerk.tickets) ended.pieces.items
  pub left : (left_in (front whole.put ended.pieces.items) ≡ []) ⊎ IsOver shared.may_stop ended.clerk.done

-- nothing is promised of what is left at the end: all tickets were spent, or the search may be stopped
abbrev pub IsSpent : Limit → ℕ → Type 0
IsSpent limit tickets = (tickets ≡ limit.tickets) ⊎ (limit.may_stop ≡ true)

-- A whole tree of a search with that limit that has ended with that best latency: unless all tickets were spent or the search may be stopped, nothing is left.
pub record IsTreeAtEnd (bounds : Bounds) (scenario : Scenario) (best tickets : ℕ) (limit : Limit) (pieces : List Piece) : Type 0 where
  pub whole : IsWhole bounds scenario best tickets pieces
  pub few : tickets ≤ limit.tickets
  pub left : (left_regions pieces ≡ []) ⊎ IsSpent limit tickets

-- what a search with that limit has come to: unless all tickets were spent or it may be stopped, nothing is left
pub record IsClosed (bounds : Bounds) (scenario : Scenario) (workers : ℕ) (limit : Limit) (closed : Closed) : Type 0 where
  pub of_scenario : closed.best.scenario ≡ scenario
  pub attained : IsAttained closed.best
  pub tickets_by_worker : AreTicketsByWorker workers closed.tickets closed.by_worker.items
  pub tree : IsTreeAtEnd bounds scenario closed.best.latency closed.tickets limit closed.pieces.items
