use Rattle.std.proofs.Common.{ℕ, List, ap, ◌∙◌, arith}
use Rattle.convoy_sure.specs.SureLeads.{lead_at, top_of}
use Rattle.convoy_sure.proofs.Known.{top_low}
use Rattle.convoy_sure.proofs.sure_leads.Scene.top_at.Goals as goal

pub returns-clause-value : goal.returns-clause-value
returns-clause-value c =
    c.top_of.ensures ∙ ap (λ (zs : List ℕ). top_of (λ z. lead_at c.args.leads.now z c.args.group) zs) c.addressed_to.ensures.list

pub returns-clause-small : goal.returns-clause-small
returns-clause-small c =
    let low = top_low c.args.leads.now c.addressed_to.result.now 129 16 c.args.group c.requires.small c.addressed_to.ensures.few in
    omega (arith, c.top_of.ensures)
