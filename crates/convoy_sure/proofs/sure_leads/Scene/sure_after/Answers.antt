use Rattle.std.proofs.Common.{ℕ, List, filter, ap, ◌∙◌}
use Rattle.convoy_draft.specs.declared.time.Time.{Time}
use Rattle.convoy_sim.specs.Delivery.{addressed_to}
use Rattle.convoy_sure.specs.SureLeads.{is_earlier}
use Rattle.convoy_sure.specs.Windows.{tables_by}
use Rattle.convoy_sure.proofs.sure_leads.Scene.sure_after.Goals as goal

pub returns : goal.returns
returns c =
    let after = λ (time : Time) (zs : List ℕ). filter (λ z. is_earlier time c.args.tick c.args.q ((tables_by c.args.self.now.windows.now).times.least_arrival z c.args.group) z) zs in
    c.those_after.ensures
    ∙ ap (after c.time.result) c.addressed_to.ensures.list
    ∙ ap (λ (time : Time). after time (addressed_to c.args.self.now.scenario.now c.args.group)) c.time.ensures.value
