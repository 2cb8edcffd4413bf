use Rattle.convoy_origin.proofs.WidenedBoxes.{inner_boxes_widen}
use Rattle.convoy_origin.proofs.widened_laws.inner_boxes_widen.Goals as goal

pub returns : goal.returns
returns c = inner_boxes_widen
