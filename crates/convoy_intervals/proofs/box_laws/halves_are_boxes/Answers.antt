use Rattle.convoy_intervals.proofs.Halves.{IsBox-halves}
use Rattle.convoy_intervals.proofs.box_laws.halves_are_boxes.Goals as goal

pub returns : goal.returns
returns c plan ranges packet at box part = IsBox-halves plan ranges packet at part.place part.low part.high box
