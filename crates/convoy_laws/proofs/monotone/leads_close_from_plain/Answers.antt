use Rattle.convoy_laws.proofs.ClosedInside.{closed_from_plain}
use Rattle.convoy_laws.proofs.monotone.leads_close_from_plain.Goals as goal

pub returns : goal.returns
returns c scenario ranges latency well bound =
    closed_from_plain c.windows_are_tables.ensures scenario ranges latency well bound
