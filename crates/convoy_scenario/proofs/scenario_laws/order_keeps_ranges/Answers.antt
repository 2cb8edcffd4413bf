use Rattle.convoy_scenario.proofs.KeptRanges.{ranges_kept}
use Rattle.convoy_scenario.proofs.scenario_laws.order_keeps_ranges.Goals as goal

pub returns : goal.returns
returns c = ranges_kept
