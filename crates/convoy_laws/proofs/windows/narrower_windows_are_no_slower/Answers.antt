use Rattle.convoy_laws.proofs.IssueTimes.{no_slower}
use Rattle.convoy_laws.proofs.windows.narrower_windows_are_no_slower.Goals as goal

pub returns : goal.returns
returns c scenario messages latency narrower upper =
    no_slower c.runs_fit_other_windows.ensures c.issued_within_its_wait.ensures.within scenario messages latency narrower upper
