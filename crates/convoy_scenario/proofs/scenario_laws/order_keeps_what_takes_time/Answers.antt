use Rattle.convoy_scenario.proofs.TakingTime.{taking_kept}
use Rattle.convoy_scenario.proofs.scenario_laws.order_keeps_what_takes_time.Goals as goal

pub returns : goal.returns
returns c = taking_kept
