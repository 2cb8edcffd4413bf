use Rattle.std.proofs.Common.{min, sym, ap, ◌∙◌}
use Rattle.convoy_ledger.specs.Tickets.{LedgerId, Account}
use Rattle.convoy_ledger.proofs.Steps.{closed_has_all}
use Rattle.convoy_ledger.proofs.ledger.Ledger.close.Goals as goal

pub returns-clause-all : goal.returns-clause-all
returns-clause-all c =
    let state = c.close_with-closed.ensures.values.2 in
    let clerk = c.clerk.invariant in
    let table = c.self.invariant in
    let account = c.clerk.view_is in
    closed_has_all _ _ c.word-draws.result c.min.result _ state.0 _ c.args.clerk state.1.0 state.1.1 state.2 c.word-draws.ensures
    (c.min.ensures ∙ ap (λ most. min c.word-draws.result most) (sym table.0))
    (clerk.1 ∙ c.if-clerk-ne-WHOLE.false)
    (ap (λ (a : Account). a.tickets) account)
    (sym (clerk.2 ∙ ap (λ (a : Account). a.done) account))
    (table.0 ∙ ap (λ (id : LedgerId). id.most) (c.self.view_is ∙ sym c.requires))
