use Rattle.convoy_share.proofs.Fillings.{IsFilling-filled}
use Rattle.convoy_share.proofs.shared_tree_laws.places_are_filled.Goals as goal

pub returns : goal.returns
returns c = IsFilling-filled
