use Rattle.std.proofs.Common.{None}
use Rattle.convoy_scenario.proofs.LinkLemmas.{stay}
use Rattle.convoy_scenario.proofs.scenario_laws.ordered_links_stay.Goals as goal

pub returns : goal.returns
returns c delay = stay delay None
