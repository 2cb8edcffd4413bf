use Rattle.convoy_scenario.proofs.GivenScenarios.{named_target}
use Rattle.convoy_scenario.proofs.scenario_laws.targets_are_named.Goals as goal

pub returns : goal.returns
returns c = named_target
