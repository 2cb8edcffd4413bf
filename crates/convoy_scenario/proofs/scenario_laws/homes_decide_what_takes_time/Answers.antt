use Rattle.convoy_scenario.proofs.TakingTime.{same_takes}
use Rattle.convoy_scenario.proofs.scenario_laws.homes_decide_what_takes_time.Goals as goal

pub returns : goal.returns
returns c = same_takes
