use Rattle.std.proofs.Common.{sym, ap, ◌∙◌, arith}
use Rattle.convoy_ledger.specs.Tickets.{LedgerId, Account}
use Rattle.convoy_ledger.proofs.Steps.{halves}
use Rattle.convoy_ledger.proofs.ledger.Ledger.split.Goals as goal

pub split_seat-seat-requires : goal.split_seat-seat-requires
split_seat-seat-requires c =
    let ledger = ap (λ (account : Account). account.ledger) c.clerk.view_is ∙ c.requires ∙ sym c.self.view_is in
    let clerk = c.clerk.invariant in
    let table = c.self.invariant in
    (ap (λ (id : LedgerId). id.table) ledger, omega arith, halves _ _ _ (omega (arith, c.if-clerk-eq1.false)))
