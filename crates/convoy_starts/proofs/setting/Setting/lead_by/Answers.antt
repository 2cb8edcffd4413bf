use Rattle.std.proofs.Common.{ℕ, max, List, ap, ap₂, ◌∙◌}
use Rattle.convoy_sure.specs.SureLeads.{lead_at, top_of}
use Rattle.convoy_starts.proofs.setting.Setting.lead_by.Goals as goal

pub returns : goal.returns
returns c =
    c.max.ensures
    ∙ ap₂ max
    (c.lead_at.ensures ∙ ap (λ (leads : List ℕ). lead_at leads c.args.q c.args.group) c.leads.ensures.leads)
    (c.top_of.ensures ∙ ap (λ (zs : List ℕ). top_of (λ z. lead_at c.args.self.now.sure.now.leads z c.args.group) zs) c.sure_after-after.ensures)
