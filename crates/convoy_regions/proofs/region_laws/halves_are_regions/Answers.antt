use Rattle.convoy_regions.proofs.OrderHalves.{halves_are_regions}
use Rattle.convoy_regions.proofs.region_laws.halves_are_regions.Goals as goal

pub returns : goal.returns
returns c scenario region is = halves_are_regions c.halves_are_boxes.ensures scenario region is
