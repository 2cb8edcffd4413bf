use Rattle.convoy_regions.proofs.OrderHalves.{orders_partition}
use Rattle.convoy_regions.proofs.region_laws.orders_partition.Goals as goal

pub returns : goal.returns
returns c scenario region first second schedule can member = orders_partition scenario region first second schedule can member
