use Rattle.std.proofs.Common.{ℕ, List, ap, ◌∙◌}
use Rattle.convoy_sure.specs.SureLeads.{lead_at, top_of}
use Rattle.convoy_sure.proofs.sure_leads.Scene.top_behind.Goals as goal

pub returns : goal.returns
returns c =
    c.top_of.ensures ∙ ap (λ (zs : List ℕ). top_of (λ z. lead_at c.args.leads.now z c.args.y) zs) (c.numbers.ensures.value ∙ c.sure_behind-behind.ensures)
