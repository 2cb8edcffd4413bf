use Rattle.convoy_regions.proofs.StageCounts.{stages_few}
use Rattle.convoy_regions.proofs.region_laws.stages_are_few.Goals as goal

pub returns : goal.returns
returns c scenario = stages_few scenario
