use Rattle.convoy_scenario.proofs.PlaceLemmas.{name_at_place}
use Rattle.convoy_scenario.proofs.scenario_laws.names_have_places.Goals as goal

pub returns : goal.returns
returns c = name_at_place
