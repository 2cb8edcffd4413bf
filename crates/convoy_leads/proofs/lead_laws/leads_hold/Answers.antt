use Rattle.convoy_leads.proofs.ClosingLaws.{leads_hold}
use Rattle.convoy_leads.proofs.lead_laws.leads_hold.Goals as goal

pub returns : goal.returns
returns c scenario ranges schedule latency well assigned member closed =
    leads_hold c.closed_holds_over_windows.ensures c.windows_enclose_members.ensures scenario ranges schedule latency well assigned member closed
