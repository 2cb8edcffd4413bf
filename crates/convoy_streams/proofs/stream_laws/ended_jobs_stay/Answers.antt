use Rattle.convoy_streams.proofs.Growth.{ended_stay}
use Rattle.convoy_streams.proofs.stream_laws.ended_jobs_stay.Goals as goal

pub returns : goal.returns
returns c = ended_stay
