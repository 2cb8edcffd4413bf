use Rattle.convoy_scenario.proofs.GivenScenarios.{of_draft}
use Rattle.convoy_scenario.proofs.scenario_laws.drafts_give_scenarios.Goals as goal

pub returns : goal.returns
returns c = of_draft
