use Rattle.std.proofs.Common.{ℕ, List, ap, ◌∙◌}
use Rattle.convoy_sure.specs.SureLeads.{lead_at, top_of}
use Rattle.convoy_starts.proofs.setting.Setting.later_lead.Goals as goal

pub returns : goal.returns
returns c =
    c.top_of.ensures
    ∙ ap (λ (zs : List ℕ). top_of (λ z. lead_at c.args.self.now.sure.now.leads z c.args.group) zs) c.sure_later-later.ensures
