use Rattle.convoy_scenario.proofs.NumberedLemmas.{all_hold}
use Rattle.convoy_scenario.proofs.scenario_laws.judged_rules_hold.Goals as goal

pub returns : goal.returns
returns c = all_hold
