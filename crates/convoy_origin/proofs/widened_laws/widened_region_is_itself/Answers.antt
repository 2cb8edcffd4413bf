use Rattle.convoy_origin.proofs.WidenedItself.{region_itself}
use Rattle.convoy_origin.proofs.widened_laws.widened_region_is_itself.Goals as goal

pub returns : goal.returns
returns c = region_itself c.packets_stand_once.ensures
