use Rattle.convoy_scenario.proofs.DraftAgain.{made_again}
use Rattle.convoy_scenario.proofs.scenario_laws.scenarios_have_drafts.Goals as goal

pub returns : goal.returns
returns c = made_again
