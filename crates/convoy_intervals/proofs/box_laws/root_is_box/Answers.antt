use Rattle.convoy_intervals.proofs.Members.{IsBox-root}
use Rattle.convoy_intervals.proofs.box_laws.root_is_box.Goals as goal

pub returns : goal.returns
returns c plan lawful = IsBox-root plan lawful
