use Rattle.convoy_leads.proofs.ClosingLaws.{closes_at_plain}
use Rattle.convoy_leads.proofs.lead_laws.closes_at_plain.Goals as goal

pub returns : goal.returns
returns c scenario ranges well = closes_at_plain c.windows_are_tables.ensures scenario ranges well
