use Rattle.convoy_scenario.proofs.NumberedLemmas.{groups_distinct}
use Rattle.convoy_scenario.proofs.scenario_laws.different_names_are_distinct.Goals as goal

pub returns : goal.returns
returns c = groups_distinct
