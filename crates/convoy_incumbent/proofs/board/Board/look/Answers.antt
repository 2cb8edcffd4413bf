use Rattle.std.proofs.Common.{sym, ap, ◌∙◌, arith}
use Rattle.convoy_incumbent.specs.Boards.{BoardId, Holding}
use Rattle.convoy_incumbent.proofs.Steps.{looks}
use Rattle.convoy_incumbent.proofs.board.Board.look.Goals as goal

pub load-word-requires : goal.load-word-requires
load-word-requires c =
    let board = ap (λ (holding : Holding). holding.board) c.hand.view_is ∙ c.requires ∙ sym c.self.view_is in
    let hand = c.hand.invariant in
    let table = c.self.invariant in
    (ap (λ (id : BoardId). id.table) board, omega arith, rw table.2 (looks _ _ _ _ (omega arith)))
