use Rattle.std.proofs.Common.{ℕ, List, ap, ◌∙◌}
use Rattle.convoy_sure.specs.SureLeads.{lead_at, top_of}
use Rattle.convoy_starts.proofs.setting.Setting.top_of.Goals as goal

pub returns : goal.returns
returns c =
    let f = λ (leads zs : List ℕ). top_of (λ z. lead_at leads z c.args.group) zs in
    c.top_of.ensures
    ∙ ap (λ (leads : List ℕ). f leads c.numbers.result.now) c.leads.ensures.leads
    ∙ ap (λ (zs : List ℕ). f c.args.self.now.sure.now.leads zs) c.numbers.ensures.value
