use Rattle.convoy_laws.proofs.IssueTimes.{times_no_slower}
use Rattle.convoy_laws.proofs.windows.times_in_window_are_no_slower.Goals as goal

pub returns : goal.returns
returns c scenario m tick latency within upper =
    times_no_slower c.narrower_windows_are_no_slower.ensures scenario m tick latency within upper
