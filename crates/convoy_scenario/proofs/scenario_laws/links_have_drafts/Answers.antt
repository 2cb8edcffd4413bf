use Rattle.convoy_scenario.proofs.DraftAgain.{links_again}
use Rattle.convoy_scenario.proofs.scenario_laws.links_have_drafts.Goals as goal

pub returns : goal.returns
returns c plan is = links_again plan plan.links is is.links
