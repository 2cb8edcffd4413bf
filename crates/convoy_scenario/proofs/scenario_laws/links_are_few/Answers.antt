use Rattle.convoy_scenario.proofs.FewLinks.{few_links}
use Rattle.convoy_scenario.proofs.scenario_laws.links_are_few.Goals as goal

pub returns : goal.returns
returns c = few_links
