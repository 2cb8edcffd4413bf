use Rattle.convoy_times.proofs.Reading.{read_back}
use Rattle.convoy_times.proofs.time_laws.times_are_read_back.Goals as goal

pub returns : goal.returns
returns c = read_back
