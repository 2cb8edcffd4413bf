use Rattle.std.proofs.Common.{sym, ap, ◌∙◌, arith}
use Rattle.convoy_ledger.specs.Tickets.{LedgerId, Account}
use Rattle.convoy_ledger.proofs.Steps.{draws}
use Rattle.convoy_ledger.proofs.ledger.Ledger.draw.Goals as goal

pub fetch_add-ticket-requires : goal.fetch_add-ticket-requires
fetch_add-ticket-requires c =
    let ledger = ap (λ (account : Account). account.ledger) c.clerk.view_is ∙ c.requires ∙ sym c.self.view_is in
    let clerk = c.clerk.invariant in
    let table = c.self.invariant in
    let most = ap (λ (id : LedgerId). id.most) ledger in
    (ap (λ (id : LedgerId). id.table) ledger, omega arith, rw table.2 (draws _ _ _ _ (omega arith) (clerk.2 ∙ c.if-clerk.false) (most ∙ sym table.0) (omega arith)))
