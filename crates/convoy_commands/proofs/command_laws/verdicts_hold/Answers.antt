use Rattle.convoy_commands.proofs.VerdictMeanings.{verdict_holds}
use Rattle.convoy_commands.proofs.command_laws.verdicts_hold.Goals as goal

pub returns : goal.returns
returns c scenario deadline least most reached upper = verdict_holds scenario deadline least most reached upper
