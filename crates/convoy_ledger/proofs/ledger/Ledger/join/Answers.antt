use Rattle.std.proofs.Common.{sym, ap, ◌∙◌, arith}
use Rattle.convoy_ledger.specs.Tickets.{LedgerId, Account}
use Rattle.convoy_ledger.proofs.Steps.{joins, weighs}
use Rattle.convoy_ledger.proofs.ledger.Ledger.join.Goals as goal

pub join_seat-requires : goal.join_seat-requires
join_seat-requires c =
    let mine = ap (λ (account : Account). account.ledger) c.clerk.view_is ∙ c.requires.clerk ∙ sym c.self.view_is in
    let theirs = ap (λ (account : Account). account.ledger) c.other.view_is ∙ c.requires.other ∙ sym c.self.view_is in
    let clerk = c.clerk.invariant in
    let other = c.other.invariant in
    let table = c.self.invariant in
    (ap (λ (id : LedgerId). id.table) mine, ap (λ (id : LedgerId). id.table) theirs, other.0, omega arith, joins _ _ _ _ _ (omega arith))

pub load-requires : goal.load-requires
load-requires c =
    let mine = ap (λ (account : Account). account.ledger) c.clerk.view_is ∙ c.requires.clerk ∙ sym c.self.view_is in
    let table = c.self.invariant in
    let seat = c.join_seat.ensures in
    (seat.0 ∙ ap (λ (id : LedgerId). id.table) mine, omega arith, rw table.2 (weighs _ _ _ _))
