use Rattle.convoy_laws.proofs.InnerBoxes.{inner_narrower}
use Rattle.convoy_laws.proofs.monotone.inner_tables_are_narrower.Goals as goal

pub returns : goal.returns
returns c scenario outer inner inside = inner_narrower c.members_are_enclosed.ensures scenario outer inner inside
