-- What contracts see of what all workers share.
use Rattle.std.specs.Prelude.{Bool}
use Rattle.convoy_scenario.specs.Scenario.{Scenario}
use Rattle.convoy_incumbent.specs.Boards.{BoardId}
use Rattle.convoy_ledger.specs.Tickets.{LedgerId}
use Rattle.convoy_branch.specs.declared.bounds.Bounds.{Bounds}
use Rattle.convoy_share.specs.declared.shared.Shared.{Shared}

-- the bounds by which the workers go, the scenario, the board and the ledger, and whether the search may be stopped
pub record Common : Type 0 where
  pub bounds : Bounds
  pub scenario : Scenario
  pub board : BoardId
  pub ledger : LedgerId
  pub may_stop : Bool

abbrev pub common_of : Shared → Common
common_of shared =
    record { bounds = shared.bounds; scenario = shared.instance.now; board = shared.board.now; ledger = shared.ledger.now; may_stop = shared.limit.may_stop }

abbrev pub common_by : Bounds → Scenario → BoardId → LedgerId → Bool → Common
common_by bounds scenario board ledger may_stop =
    record { bounds = bounds; scenario = scenario; board = board; ledger = ledger; may_stop = may_stop }
