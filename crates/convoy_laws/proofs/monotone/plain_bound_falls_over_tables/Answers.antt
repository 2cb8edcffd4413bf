use Rattle.convoy_laws.proofs.NarrowTables.{plain_falls}
use Rattle.convoy_laws.proofs.monotone.plain_bound_falls_over_tables.Goals as goal

pub returns : goal.returns
returns c scenario outer inner well narrow = plain_falls scenario outer inner well narrow
