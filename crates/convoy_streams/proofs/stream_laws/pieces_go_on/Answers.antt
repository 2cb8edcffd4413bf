use Rattle.convoy_streams.proofs.Pieces.{pieces_go_on}
use Rattle.convoy_streams.proofs.stream_laws.pieces_go_on.Goals as goal

pub returns : goal.returns
returns c = pieces_go_on
