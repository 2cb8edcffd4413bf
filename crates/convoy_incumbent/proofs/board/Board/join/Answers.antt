use Rattle.std.proofs.Common.{sym, ap, ◌∙◌, subst, arith}
use Rattle.convoy_incumbent.specs.Boards.{BoardId, Holding, board_of, IsBetterOf, IsBest}
use Rattle.convoy_incumbent.proofs.Notes.{best_append, none_above_joined}
use Rattle.convoy_incumbent.proofs.Steps.{joins, weighs}
use Rattle.convoy_incumbent.proofs.board.Board.join.Goals as goal

pub join_seat-requires : goal.join_seat-requires
join_seat-requires c =
    let mine = ap (λ (holding : Holding). holding.board) c.hand.view_is ∙ c.requires.hand ∙ sym c.self.view_is in
    let theirs = ap (λ (holding : Holding). holding.board) c.other.view_is ∙ c.requires.other ∙ sym c.self.view_is in
    let hand = c.hand.invariant in
    let other = c.other.invariant in
    let table = c.self.invariant in
    (ap (λ (id : BoardId). id.table) mine, ap (λ (id : BoardId). id.table) theirs, other.0, omega arith, joins _ _ _ _ _ (omega arith))

pub load-requires : goal.load-requires
load-requires c =
    let mine = ap (λ (holding : Holding). holding.board) c.hand.view_is ∙ c.requires.hand ∙ sym c.self.view_is in
    let table = c.self.invariant in
    let seat = c.join_seat.ensures in
    (seat.0 ∙ ap (λ (id : BoardId). id.table) mine, omega arith, rw table.2 (weighs _ _ _ _))

pub invariant_of-hand : goal.invariant_of-hand
invariant_of-hand c =
    let mine = ap (λ (holding : Holding). holding.board) c.hand.view_is ∙ c.requires.hand ∙ sym c.self.view_is in
    let theirs = ap (λ (holding : Holding). holding.board) c.other.view_is ∙ c.requires.other ∙ sym c.self.view_is in
    let hand = c.hand.invariant in
    let other = c.other.invariant in
    let seat = c.hand.inside.seat.me.0 in
    let others = c.other.inside.seat.me.0 in
    let joined = c.join_seat.ensures in
    let loaded = c.load.ensures in
    let second = subst (λ id. IsBest id others.pairs c.other.inside.best) (theirs ∙ sym mine) other.3 in
    let better = subst (λ best. IsBetterOf best c.other.inside.best c.better_of.result) c.take-mine.ensures.value c.better_of.ensures in
    let best = best_append (board_of c.hand.inside.seat.table_id seat.store) seat.pairs others.pairs c.hand.inside.best c.other.inside.best c.better_of.result hand.3 second better in
    let none = none_above_joined seat.seen others.seen seat.pairs others.pairs hand.4 other.4 in
    rw (loaded.0, loaded.2.0, joined.0, joined.2) (hand.0, omega arith, omega arith, best, none)
