use Rattle.std.proofs.Common.{sym, ap, ◌∙◌, arith}
use Rattle.convoy_incumbent.specs.Boards.{BoardId, Holding}
use Rattle.convoy_incumbent.proofs.Steps.{halves}
use Rattle.convoy_incumbent.proofs.board.Board.split.Goals as goal

pub split_seat-seat-requires : goal.split_seat-seat-requires
split_seat-seat-requires c =
    let board = ap (λ (holding : Holding). holding.board) c.hand.view_is ∙ c.requires ∙ sym c.self.view_is in
    let hand = c.hand.invariant in
    let table = c.self.invariant in
    (ap (λ (id : BoardId). id.table) board, omega arith, halves _ _ _ (omega (arith, c.if-hand-eq1.false)))
