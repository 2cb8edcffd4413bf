use Rattle.convoy_laws.proofs.ClosedInside.{closed_inside}
use Rattle.convoy_laws.proofs.monotone.leads_close_inside.Goals as goal

pub returns : goal.returns
returns c scenario outer inner latency well inside closed =
    closed_inside c.members_are_enclosed.ensures c.inner_tables_are_narrower.ensures c.windows_are_tables.ensures scenario outer inner latency well inside closed
