use Rattle.convoy_scenario.proofs.DraftAgain.{group_known}
use Rattle.convoy_scenario.proofs.scenario_laws.targets_are_groups.Goals as goal

pub returns : goal.returns
returns c = group_known
