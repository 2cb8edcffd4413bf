use Rattle.convoy_leads.proofs.ClosingLaws.{closed_holds}
use Rattle.convoy_leads.proofs.lead_laws.closed_holds_over_windows.Goals as goal

pub returns : goal.returns
returns c scenario schedule windows latency well assigned enclosed closed =
    closed_holds c.laws_below.ensures scenario schedule windows latency well assigned enclosed closed
