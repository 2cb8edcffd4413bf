use Rattle.convoy_sure.proofs.WindowLaws.{windows_are_tables}
use Rattle.convoy_sure.proofs.sure_laws.windows_are_tables.Goals as goal

pub returns : goal.returns
returns c scenario ranges well m g goes = windows_are_tables scenario ranges well m g goes
