use Rattle.std.proofs.Common.{sym, ap, ◌∙◌, arith}
use Rattle.convoy_incumbent.specs.Boards.{BoardId, Holding}
use Rattle.convoy_incumbent.proofs.Steps.{weighs}
use Rattle.convoy_incumbent.proofs.board.Board.close.Goals as goal

pub load-requires : goal.load-requires
load-requires c =
    let board = ap (λ (holding : Holding). holding.board) c.hand.view_is ∙ c.requires ∙ sym c.self.view_is in
    let table = c.self.invariant in
    (ap (λ (id : BoardId). id.table) board, omega arith, rw table.2 (weighs _ _ _ _))
