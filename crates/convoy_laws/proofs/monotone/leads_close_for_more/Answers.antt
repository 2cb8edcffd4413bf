use Rattle.convoy_laws.proofs.ClosedInside.{closed_for_more}
use Rattle.convoy_laws.proofs.monotone.leads_close_for_more.Goals as goal

pub returns : goal.returns
returns c scenario ranges latency more well are high closed =
    closed_for_more c.members_are_enclosed.ensures c.inner_tables_are_narrower.ensures c.windows_are_tables.ensures scenario ranges latency more well are high closed
